-- A program with its classes as a frame: the rounds over lists of nodes are the rounds over names.
use Rattle.std.proofs.Common.{◌≡◌, ℕ, zero, suc, ◌+◌, ◌≤◌, Bool, true, false, cond, not, ◌&&◌, eqb, List, [], ◌∷◌, length, get_or, is_some, Some, None, Option, sym, refl, ap, ◌∙◌, subst, ap₂, add-one, arith}
use mathlib.Core.Path.{fun_ext}
use Rattle.std.specs.Str.{bytes_eq}
use Rattle.std.proofs.lemmas.Bool.{false≢true, true≢false, and_from, and_parts, and_right, and_left, cond-true, cond-false, cond_both, false_from_ne_true}
use Rattle.std.proofs.lemmas.List.{get_or_past, length-map}
use Rattle.std.proofs.ByRecursion.{All-from_get_or}
use Rattle.std.proofs.lemmas.Slice.Eq.{bytes_eq-Decides}
use Rattle.model.specs.declared.nodes.Name.{Name}
use Rattle.model.specs.declared.nodes.Node.{Node}
use Rattle.model.specs.Lists.{keep, counting}
use Rattle.model.specs.Kinds.{has_name, declares as kind_declares}
use Rattle.model.specs.Names.{name_at, kind_at, blank}
use Rattle.model.specs.Forest.{shape}
use Rattle.model.specs.Scopes.{Order, reach_by}
use Rattle.model.specs.declared.classes.Class.{Class}
use Rattle.model.specs.Classes.{in_class, together}
use Rattle.model.specs.Repair.{leads, class_reached, captures, captors, marks, fresh, respell_all, round, Repairs, done, again, Mended, repair_within, one_more, classes_reached}
use Rattle.model.specs.Rules.{Visible}
use Rattle.laws.proofs.Reaches.{shape_kind}
use Rattle.promise.specs.Rounds.{Classed, OneSpelling, has_declaration, declared_classes}
use Rattle.promise.proofs.Lists.{length_keep, unused_least, eqb_sym, any_below, any_kept, any_get_or, any_count, keep_none, keep_some, count_keep, first_first, get_or_places}
use Rattle.promise.proofs.Classes.{declares_named, same_option, same_option_decides, some_is, together_at}
use Rattle.promise.proofs.Respelling.{classed_same, respell_same, respell_at, respelled_at, has_turn, round_same}
use Rattle.promise.proofs.Frame.{Role, plain, declares, refers, is_named, is_declares, Frame, Lawful, Names, named, peer, captured, captor, declared, class_count, taken, turns, turn, unsettled, Settles, within, Name as Spelling, any as below, reach as reach_in, leads as leads_in, fresh as FreshIn, respell as respell_in, round as round_in, OneSpelling as OneSpellingIn}
use Rattle.promise.proofs.FrameTests.{any_some, any_none, count_le}

abbrev pub named_as : Option Class → Bool → Role
named_as None b = plain
named_as (Some c) true = declares
named_as (Some c) false = refers

abbrev pub frame : (ℕ → List ℕ) → List (Option Class) → List Node → Frame (List ℕ) (Option Class)
frame sees cs p = record {
  same_stem = λ a b. bytes_eq b a;
  same_class = λ a b. same_option b a;
  size = length cs;
  role = λ i. named_as (get_or cs i None) (kind_declares (kind_at p i));
  class_of = λ i. get_or cs i None;
  visible = sees;
}

abbrev pub as_name : Name → Spelling (List ℕ)
as_name a = record { stem = a.stem; mark = a.mark }

abbrev pub names : List Node → Names (List ℕ)
names p i = as_name (name_at p i)

pub named_is : (c : Option Class) (b : Bool) → is_named (named_as c b) ≡ is_some c
named_is None b = refl
named_is (Some c) true = refl
named_is (Some c) false = refl

pick_is : (c e : Option Class) (b : Bool) → (is_named (named_as c b) && same_option e c) ≡ together e c
pick_is None None b = refl
pick_is None (Some e) b = refl
pick_is (Some c) None true = refl
pick_is (Some c) None false = refl
pick_is (Some c) (Some e) true = refl
pick_is (Some c) (Some e) false = refl

in_is : (e : Class) (c : Option Class) → same_option (Some e) c ≡ in_class e c
in_is e None = refl
in_is e (Some c) = refl

module _ (sees : ℕ → List ℕ) (cs : List (Option Class)) (p₀ : List Node) where
  abbrev F : Frame (List ℕ) (Option Class)
  F = frame sees cs p₀

  pub reach_is : (q : List Node) (i : ℕ) → reach_by sees q i ≡ reach_in F (names q) i
  unfolding reach_in
  reach_is q i = first_first _ _ (sees i) (λ d. ap (λ b. bytes_eq (name_at q i).stem (name_at q d).stem && b) (eqb_sym (name_at q i).mark (name_at q d).mark))

  leads_is : (e : ℕ) (c : Class) → get_or cs e None ≡ Some c → leads cs e ≡ leads_in F e
  unfolding leads_in
  leads_is e c q =
      ap not (any_below _ _ e (λ j _. sym (pick_is (get_or cs j None) (get_or cs e None) (kind_declares (kind_at p₀ j)))))
      ∙ ap (λ b. b && not (below (λ j. named F j && peer F j e) e)) (sym (named_is (get_or cs e None) (kind_declares (kind_at p₀ e)) ∙ ap is_some q))

  captured_is : (q : List Node) (e i : ℕ) (c : Class) → get_or cs e None ≡ Some c → (o : Option ℕ) → (together (get_or cs e None) (class_reached cs o) && not (together (get_or cs e None) (get_or cs i None))) ≡ within (λ d. peer F d e && not (peer F i e)) o
  captured_is q e i c h None = ap (λ x. together x None && not (together x (get_or cs i None))) h
  captured_is q e i c h (Some d) =
      ap₂ (λ x y. x && not y) (at d) (at i)
    where
      at : (j : ℕ) → together (get_or cs e None) (get_or cs j None) ≡ same_option (get_or cs e None) (get_or cs j None)
      at j = ap (λ x. together x (get_or cs j None)) h ∙ sym (in_is c (get_or cs j None)) ∙ ap (λ x. same_option x (get_or cs j None)) (sym h)

  pub captures_is : (q : List Node) → length q ≡ length cs → (e : ℕ) (c : Class) → get_or cs e None ≡ Some c → captures cs (classes_reached sees cs q) e ≡ captor F (names q) e
  unfolding captor captured
  captures_is q l e c h = any_below _ _ (length cs) (λ i k.
      ap (λ r. together (get_or cs e None) r && not (together (get_or cs e None) (get_or cs i None))) (get_or_places (λ j. class_reached cs (reach_by sees q j)) q i None (omega arith))
      ∙ captured_is q e i c h (reach_by sees q i)
      ∙ ap (within (λ d. peer F d e && not (peer F i e))) (reach_is q i))

  none_captures : (rs : List (Option Class)) (e : ℕ) → get_or cs e None ≡ None → captures cs rs e ≡ false
  none_captures rs e h = false_from_ne_true _ λ a.
      let (k, _, _, t) = any_count (λ i. together (get_or cs e None) (get_or rs i None) && not (together (get_or cs e None) (get_or cs i None))) 0 (length cs) a in
      false≢true (sym (ap (λ x. together x (get_or rs k None)) h) ∙ (and_parts _ _ t).0)

  pub turn_is : (q : List Node) → length q ≡ length cs → (e : ℕ) → has_turn sees cs q e ≡ turn F (names q) e
  unfolding leads_in
  turn_is q l e = go (get_or cs e None) refl
    where
      go : (o : Option Class) → get_or cs e None ≡ o → has_turn sees cs q e ≡ turn F (names q) e
      go None h = and_right (leads cs e) _ (none_captures (classes_reached sees cs q) e h) ∙ sym (and_left (leads_in F e) _ (and_left (named F e) _ (named_is (get_or cs e None) _ ∙ ap is_some h)))
      go (Some c) h = ap₂ ◌&&◌ (leads_is e c h) (captures_is q l e c h)

  pub fresh_is : (q : List Node) → Classed cs q → (a : Name) → as_name (fresh a q) ≡ record { stem = a.stem; mark = FreshIn F (names q) a.stem }
  unfolding FreshIn taken
  fresh_is q f a =
      let t : Node → Bool = λ n. has_name n.kind && bytes_eq a.stem n.name.stem in
      let few : length (marks a q) ≤ length cs = omega (arith, length-map (keep t q) (λ n. n.name.mark), length_keep t q, f.long) in
      let v = unused_least (marks a q) (taken F (names q) a.stem) (λ m.
      any_kept (eqb m) (λ n. n.name.mark) t q
      ∙ any_get_or _ q blank (λ j. named F j && (bytes_eq a.stem (name_at q j).stem && eqb (name_at q j).mark m)) (λ j _.
      shuffle (has_name (kind_at q j)) (bytes_eq a.stem (name_at q j).stem) (eqb m (name_at q j).mark)
      ∙ ap₂ (λ x y. x && (bytes_eq a.stem (name_at q j).stem && y)) (f.named_there j ∙ sym (named_is (get_or cs j None) _)) (eqb_sym m (name_at q j).mark))
      ∙ ap (below _) f.long)
      (length cs) few in
      λ i. record { stem = a.stem; mark = v i }
    where
      shuffle : (x y z : Bool) → ((x && y) && z) ≡ (x && (y && z))
      shuffle true y z = refl
      shuffle false y z = refl

  respell_is : (q : List Node) → Classed cs q → (e : ℕ) → names (respelled_at cs e q) ≡ respell_in F (names q) e
  unfolding respell_in
  respell_is q f e = fun_ext λ j.
      ap as_name (respell_at (get_or cs e None) (fresh (name_at q e) q) cs q f.long j)
      ∙ push (together (get_or cs e None) (get_or cs j None)) (fresh (name_at q e) q) (name_at q j)
      ∙ ap₂ (λ b x. cond b x (names q j)) (sym (pick_is (get_or cs j None) (get_or cs e None) _)) (fresh_is q f (name_at q e))
    where
      push : (b : Bool) (x y : Name) → as_name (cond b x y) ≡ cond b (as_name x) (as_name y)
      push true x y = refl
      push false x y = refl

  -- the captors in turn
  pub turns_is : (nm : Names (List ℕ)) (t : ℕ → Bool) → ((e : ℕ) → t e ≡ turn F nm e) → (k at : ℕ) (q : List Node) → Classed cs q → names q ≡ turns F nm at → names (respell_all (keep t (counting at k)) cs q) ≡ turns F nm (at + k)
  unfolding turns
  turns_is nm t h zero at q f e = e ∙ ap (turns F nm) (omega arith)
  turns_is nm t h (suc k) at q f e =
      let n : at + 1 + k ≡ at + suc k = omega arith in
      let m : turns F nm (at + 1) ≡ cond (turn F nm at) (respell_in F (turns F nm at) at) (turns F nm at) = ap (turns F nm) (add-one at) in
      cond_both (t at) (at ∷ keep t (counting (at + 1) k)) (keep t (counting (at + 1) k)) (λ es. names (respell_all es cs q) ≡ turns F nm (at + suc k))
      (λ b.
      turns_is nm t h k (at + 1) (respelled_at cs at q) (classed_same cs q _ f (respell_same _ _ cs q)) (respell_is q f at ∙ ap (λ x. respell_in F x at) e ∙ sym (m ∙ cond-true (turn F nm at) _ _ (sym (h at) ∙ b)))
      ∙ ap (turns F nm) n)
      (λ b. turns_is nm t h k (at + 1) q f (e ∙ sym (m ∙ cond-false (turn F nm at) _ _ (sym (h at) ∙ b))) ∙ ap (turns F nm) n)

  pub round_is : (q : List Node) → Classed cs q → names (round sees cs q) ≡ round_in F (names q)
  unfolding turns
  round_is q f =
      let n : 0 + length q ≡ length cs = omega (arith, f.long) in
      turns_is (names q) (has_turn sees cs q) (turn_is q f.long) (length q) 0 q f refl ∙ ap (turns F (names q)) n

  settled : (q : List Node) → Classed cs q → unsettled F (names q) ≡ false → captors sees cs q ≡ []
  settled q f u = keep_none (has_turn sees cs q) 0 (length q) (λ k l. turn_is q f.long k ∙ any_none (turn F (names q)) (length cs) k u (omega (arith, f.long)))

  pub unsettled_some : (q : List Node) → Classed cs q → unsettled F (names q) ≡ true → captors sees cs q ≡ [] → ⊥
  unsettled_some q f u e =
      let (k, l, t) = any_some (turn F (names q)) (length cs) u in
      keep_some (has_turn sees cs q) 0 (length q) k (omega arith) (omega (arith, f.long)) (turn_is q f.long k ∙ t) e

  -- the repair by computing is the repair, in as many rounds
  abbrev Computed : List Node → Mended → ℕ → Type 0
  Computed q m n = Repairs sees cs q m.rounds m.program × (m.rounds ≡ n)

  pub computed : (k n : ℕ) (q : List Node) → Classed cs q → n ≤ k → Settles F (names q) n → Repairs sees cs q (repair_within k sees cs q).rounds (repair_within k sees cs q).program × ((repair_within k sees cs q).rounds ≡ n)
  computed zero zero q f l p = (done (settled q f p), refl)
  computed zero (suc n) q f l p = absurd (omega arith)
  computed (suc k) zero q f l p = go (captors sees cs q) refl
    where
      go : (c : List ℕ) → captors sees cs q ≡ c → Computed q (elim c [ [] ↦ record { program = q; rounds = 0 } | e ∷ more ↦ one_more (repair_within k sees cs (respell_all (e ∷ more) cs q)) ]) 0
      go [] e = (done e, refl)
      go (x ∷ c) e = absurd (omega (arith, ap length (sym (settled q f p) ∙ e)))
  computed (suc k) (suc n) q f l p =
      go (captors sees cs q) refl (computed k n (round sees cs q) (classed_same cs q _ f (round_same cs sees q f)) (omega arith) (subst (λ x. Settles F x n) (sym (round_is q f)) p.1))
    where
      go : (c : List ℕ) → captors sees cs q ≡ c → Computed (round sees cs q) (repair_within k sees cs (round sees cs q)) n → Computed q (elim c [ [] ↦ record { program = q; rounds = 0 } | e ∷ more ↦ one_more (repair_within k sees cs (respell_all (e ∷ more) cs q)) ]) (suc n)
      go [] e h = absurd (unsettled_some q f p.0 e)
      go (x ∷ c) e h =
          let t : Computed (round sees cs q) (repair_within k sees cs (respell_all (x ∷ c) cs q)) n = subst (λ z. Computed (round sees cs q) (repair_within k sees cs (respell_all z cs q)) n) e h in
          (again (unsettled_some q f p.0) t.0, ap suc t.1)

  -- classes with a declaration
  declared_is : (e : ℕ) → has_declaration cs p₀ e ≡ declared F e
  unfolding declared
  declared_is e = any_below _ _ (length cs) (λ d _. go (get_or cs d None) (get_or cs e None) (kind_declares (kind_at p₀ d)))
    where
      go : (c e : Option Class) (b : Bool) → (b && together e c) ≡ (is_declares (named_as c b) && same_option e c)
      go None None true = refl
      go None None false = refl
      go None (Some e) true = refl
      go None (Some e) false = refl
      go (Some c) None true = refl
      go (Some c) None false = refl
      go (Some c) (Some e) true = refl
      go (Some c) (Some e) false = refl

  counted_is : (e : ℕ) → (leads_in F e && declared F e) ≡ true → (leads cs e && has_declaration cs p₀ e) ≡ true
  unfolding leads_in
  counted_is e h =
      let t = and_parts (leads_in F e) (declared F e) h in
      let (c, q) = some_is (get_or cs e None) (sym (named_is (get_or cs e None) _) ∙ (and_parts (named F e) _ t.0).0) in
      and_from _ _ (leads_is e c q ∙ t.0) (declared_is e ∙ t.1)

  pub class_count_is : class_count F ≤ declared_classes cs p₀
  class_count_is =
      omega (arith, count_le (λ e. leads cs e && has_declaration cs p₀ e) (λ e. leads_in F e && declared F e) (length cs) (λ e _. counted_is e), count_keep (λ e. leads cs e && has_declaration cs p₀ e) (length cs))

-- Roles
role_decl : (c : Option Class) (b : Bool) → is_some c ≡ true → b ≡ true → named_as c b ≡ declares
role_decl None b h e = absurd (false≢true h)
role_decl (Some c) true h e = refl
role_decl (Some c) false h e = absurd (false≢true e)

decl_role : (c : Option Class) (b : Bool) → is_declares (named_as c b) ≡ true → b ≡ true
decl_role None b h = absurd (false≢true h)
decl_role (Some c) true h = refl
decl_role (Some c) false h = absurd (false≢true h)

pub plain_none : (c : Option Class) (b : Bool) → is_some c ≡ false → named_as c b ≡ plain
plain_none None b h = refl
plain_none (Some c) b h = absurd (true≢false h)

module _ (order : Order) (V : Visible order) (cs : List (Option Class)) (p : List Node) (f : Classed cs p) where
  pub lawful : Lawful (frame (order (shape p)) cs p)
  lawful =
      let sees = order (shape p) in
      record {
        stems = λ a b. (λ h. sym ((bytes_eq-Decides b a).0 h), λ e. (bytes_eq-Decides b a).1 (sym e));
        classes = same_option_decides;
        past = λ i l. plain_none _ _ (ap is_some (get_or_past cs i None l));
        seen = λ i. All-from_get_or _ (sees i) 0 (λ k l.
            let h = ap kind_declares (sym (shape_kind p (get_or (sees i) k 0))) ∙ V.declarations (shape p) i k l in
            role_decl _ _ (sym (f.named_there (get_or (sees i) k 0)) ∙ declares_named _ h) h);
        itself = λ i h. V.itself (shape p) i (ap kind_declares (shape_kind p i) ∙ decl_role (get_or cs i None) _ (ap is_declares h));
        unseen = λ i h. V.nothing (shape p) i (ap has_name (shape_kind p i) ∙ f.named_there i ∙ sym (named_is (get_or cs i None) _) ∙ ap is_named h);
      }

  pub one_frame : (q : List Node) → OneSpelling cs q → OneSpellingIn (frame (order (shape p)) cs p) (names q)
  one_frame q o i j ni nj e = let (c, h) = some_is (get_or cs i None) (sym (named_is (get_or cs i None) _) ∙ ni) in ap as_name (o i j (together_at (get_or cs i None) (get_or cs j None) c h (sym e)))
