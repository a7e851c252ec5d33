-- Cards: the lines in turn, and the latest declaration of a name among those that have passed.
use Rattle.std.proofs.Common.{◌≡◌, ℕ, suc, ◌+◌, ◌-◌, ◌<◌, ◌≤◌, Bool, true, false, ◌&&◌, List, [], ◌∷◌, ◌++◌, length, get_or, drop, replicate, Some, None, Option, sym, refl, ap, ◌∙◌, ap₂, subst, subst₂, arith}
use Rattle.std.proofs.lemmas.List.{get_or_append_left, get_or-append_right, get_or-replicate, length-replicate}
use Rattle.std.specs.declared.ops.Range.{Range}
use denote.Ref.{Bor}
use Rattle.model.specs.declared.kinds.Kind.{Kind}
use Rattle.model.specs.declared.nodes.Name.{Name}
use Rattle.model.specs.declared.nodes.Node.{Node}
use Rattle.model.specs.declared.nodes.Entry.{Entry}
use Rattle.model.specs.Kinds.{declares}
use Rattle.model.specs.Names.{alike, node_at, kind_at, name_at, entry_at, nodes}
use Rattle.model.specs.Forest.{Shape, shape, arity, first, after, size, grow, kinds_only}
use Rattle.model.specs.Scopes.{more, card_lines, card_scopes, reach_in}
use Rattle.laws.specs.Walks.{beyond}
use Rattle.laws.proofs.Entries.{node_of}
use Rattle.laws.proofs.RoundTrips.{length_nodes}
use Rattle.laws.proofs.Forests.{size_kinds, kinds_first, kinds_after, shape_at}
use Rattle.laws.proofs.Walks.{after_from}
use Rattle.scope.specs.declared.cards.Lines.{Lines}
use Rattle.scope.specs.Lines.{LineOn}
use Rattle.scope.proofs.Scoping.{reach_here, reach_past, tested}

-- Lines

module _ (p : List Node) (line : ℕ) (inside : line < length p) where
  abbrev kind : Kind
  kind = kind_at p line

  -- the nodes of the line below its first
  abbrev below : Shape
  below = first (arity (node_at p line)) (shape (drop (line + 1) p))

  next_line : beyond p line 1 ≡ line + (1 + size below)
  next_line =
      let g = grow (drop line p) in
      let e = sym (size_kinds (first 1 g)) ∙ ap (λ (f : Shape). size f) (kinds_first 1 g ∙ ap (first 1) (shape_at p line inside)) in
      omega arith

  after_line : after (arity (node_at p line)) (shape (drop (line + 1) p)) ≡ shape (drop (beyond p line 1) p)
  after_line = ap (after 1) (sym (shape_at p line inside)) ∙ (sym (kinds_after 1 (grow (drop line p))) ∙ ap kinds_only (after_from p line 1))

  -- a line, and k more
  lines : (k : ℕ) (Γ : List ℕ) → card_lines line Γ (first (suc k) (shape (drop line p))) ≡ replicate (1 + size below) Γ ++ card_lines (beyond p line 1) (more (declares kind) line Γ) (first k (shape (drop (beyond p line 1) p)))
  lines k Γ =
      let e : line + 1 + size below ≡ beyond p line 1 = (let h = next_line in omega arith) in
      ap (λ (f : Shape). card_lines line Γ (first (suc k) f)) (shape_at p line inside)
      ∙ ap₂ (λ j (f : Shape). replicate (1 + size below) Γ ++ card_lines j (more (declares kind) line Γ) (first k f)) e after_line

-- the walk has come to a line with so many lines left, and the latest that declares the name is this
pub record Passed (p : List Node) (at : ℕ) (name : Name) (line left : ℕ) (latest : Option ℕ) : Type 0 where
  pub before : line ≤ at
  pub declared : List ℕ
  pub latest_is : latest ≡ reach_in p name declared
  pub same : get_or (card_scopes (shape p)) at [] ≡ get_or (card_lines line declared (first left (shape (drop line p)))) (at - line) []

module _ (p : List Node) (at : ℕ) (name : Name) (inside : at < length p) where
  lines_begin : 0 < at → Passed p at name 1 (arity (node_at p 0)) None
  lines_begin h =
      let e : at ≡ suc (at - 1) = omega arith in
      record {
        before = omega arith;
        declared = [];
        latest_is = refl;
        same = ap (λ (s : Shape). get_or (card_scopes s) at []) (shape_at p 0 (omega arith)) ∙ ap (λ n. get_or ([] ∷ card_lines 1 [] (first (arity (node_at p 0)) (shape (drop 1 p)))) n []) e;
      }

  module _ (line left : ℕ) (latest : Option ℕ) (some : 0 < left) (w : Passed p at name line left latest) where
    there : line < length p
    there = let h = w.before in omega arith

    same_there : get_or (card_scopes (shape p)) at [] ≡ get_or (replicate (1 + size (below p line there)) w.declared ++ card_lines (beyond p line 1) (more (declares (kind_at p line)) line w.declared) (first (left - 1) (shape (drop (beyond p line 1) p)))) (at - line) []
    same_there =
        let n : left ≡ suc (left - 1) = omega arith in
        w.same ∙ ap (λ (ls : List (List ℕ)). get_or ls (at - line) []) (ap (λ k. card_lines line w.declared (first k (shape (drop line p)))) n ∙ lines p line there (left - 1) w.declared)

    own_line : at < beyond p line 1 → reach_in p name (get_or (card_scopes (shape p)) at []) ≡ latest
    own_line l =
        let Γ = w.declared in
        let s = 1 + size (below p line there) in
        let h = next_line p line there in
        let b = w.before in
        let i : at - line < s = omega arith in
        ap (reach_in p name)
        (same_there
        ∙ (get_or_append_left (replicate s Γ) _ [] (at - line) (let z = length-replicate s Γ in omega arith) ∙ get_or-replicate s (at - line) Γ [] i))
        ∙ sym w.latest_is

    on : (l : beyond p line 1 ≤ at) (next : Option ℕ) → next ≡ reach_in p name (more (declares (kind_at p line)) line w.declared) → Passed p at name (beyond p line 1) (left - 1) next
    on l next e =
        let Γ = w.declared in
        let s = 1 + size (below p line there) in
        let h = next_line p line there in
        let b = w.before in
        let i : at - line - s ≡ at - beyond p line 1 = omega arith in
        let ls = card_lines (beyond p line 1) (more (declares (kind_at p line)) line Γ) (first (left - 1) (shape (drop (beyond p line 1) p))) in
        record {
          before = l;
          declared = more (declares (kind_at p line)) line Γ;
          latest_is = e;
          same = same_there ∙ (get_or-append_right (replicate s Γ) ls s (at - line) [] (length-replicate s Γ) (omega arith) ∙ ap (λ n. get_or ls n []) i);
        }

    line_declares : beyond p line 1 ≤ at → (declares (kind_at p line) && alike name (name_at p line)) ≡ true → Passed p at name (beyond p line 1) (left - 1) (Some line)
    line_declares l h = on l (Some line) (sym (reach_here p name (declares (kind_at p line)) line w.declared h))

    line_passes : beyond p line 1 ≤ at → (declares (kind_at p line) && alike name (name_at p line)) ≡ false → Passed p at name (beyond p line 1) (left - 1) latest
    line_passes l h = on l latest (w.latest_is ∙ sym (reach_past p name (declares (kind_at p line)) line w.declared h))

-- The same over a row of entries, by the iterator of its lines

-- the walk has come to where the iterator is
pub record Passing (es : List Entry) (at : ℕ) (name : Name) (s : Lines) (latest : Option ℕ) : Type 0 where
  pub same : s.program.now ≡ es
  pub passed : Passed (nodes es) at name s.begin s.left latest

pub passing_begins : (es : List Entry) (at : ℕ) (name : Name) (s : Lines) → at < length es → 0 < at → s.program.now ≡ es → s.begin ≡ 1 → s.left ≡ arity (entry_at es 0).node → Passing es at name s None
passing_begins es at name s l some same one all =
    record {
      same = same;
      passed = subst₂ (λ j k. Passed (nodes es) at name j k None) (sym one) (sym (all ∙ ap arity (node_of es 0))) (lines_begin (nodes es) at name (let z = length_nodes es in omega arith) some);
    }

module _ (es : List Entry) (at : ℕ) (name : Name) (inside : at < length es) (s t : Lines) (line : Range ℕ) (latest : Option ℕ) (w : Passing es at name s latest) (step : LineOn s t line) where
  here : Passed (nodes es) at name line.start s.left latest
  here = subst (λ j. Passed (nodes es) at name j s.left latest) (sym step.starts) w.passed

  next_is : t.begin ≡ beyond (nodes es) line.start 1
  next_is = step.whole ∙ (ap (λ (xs : List Entry). beyond (nodes xs) s.begin 1) w.same ∙ ap (λ j. beyond (nodes es) j 1) (sym step.starts))

  one_left : 0 < s.left
  one_left = let z = step.fewer in omega arith

  inside_nodes : at < length (nodes es)
  inside_nodes = let z = length_nodes es in omega arith

  pub stops_in_own_line : at < line.end → reach_in (nodes es) name (get_or (card_scopes (shape (nodes es))) at []) ≡ latest
  stops_in_own_line l = own_line (nodes es) at name inside_nodes line.start s.left latest one_left here (let z = next_is in let e = step.ends in omega arith)

  one_fewer : (last : Option ℕ) → Passed (nodes es) at name (beyond (nodes es) line.start 1) (s.left - 1) last → Passing es at name t last
  one_fewer last v =
      let z : s.left - 1 ≡ t.left = (let f = step.fewer in omega arith) in
      record { same = ap (λ (b : Bor (List Entry)). b.now) step.same ∙ w.same; passed = subst₂ (λ j k. Passed (nodes es) at name j k last) (sym next_is) z v }

  module _ (l : line.end ≤ at) (b : Bool) (h : b ≡ (declares (entry_at es line.start).node.kind && alike name (entry_at es line.start).node.name)) where
    reached : beyond (nodes es) line.start 1 ≤ at
    reached = let z = next_is in let e = step.ends in omega arith

    pub goes_on_declared : b ≡ true → Passing es at name t (Some line.start)
    goes_on_declared h' = one_fewer (Some line.start) (line_declares (nodes es) at name inside_nodes line.start s.left latest one_left here reached (tested declares es name line.start b h ∙ h'))

    pub goes_on_undeclared : b ≡ false → Passing es at name t latest
    goes_on_undeclared h' = one_fewer latest (line_passes (nodes es) at name inside_nodes line.start s.left latest one_left here reached (tested declares es name line.start b h ∙ h'))
