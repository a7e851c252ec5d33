-- Which entries use a mark with a stem, and what a row shows of them.
use Rattle.std.proofs.Common.{◌≡◌, ℕ, ◌+◌, ◌<◌, ◌≤◌, Bool, true, false, cond, ◌&&◌, ◌||◌, eqb, ◌⊎◌, List, [], ◌∷◌, map, length, get_or, take, sym, refl, ap, ◌∙◌, ap₂, ⊎_elim, arith}
use mathlib.Core.Bool.{or-false}
use lib.ListN.{length-map}
use Rattle.std.specs.List.{list_any}
use Rattle.std.proofs.lemmas.List.{take_all}
use Rattle.std.proofs.lemmas.List.Folds.{list_any_more}
use Rattle.std.proofs.lemmas.Bool.{ne_eqb, and_left, and_right}
use Rattle.model.specs.declared.nodes.Name.{Name}
use Rattle.model.specs.declared.nodes.Entry.{Entry}
use Rattle.model.specs.Lists.{keep, any}
use Rattle.model.specs.Names.{nodes}
use Rattle.model.specs.Repair.{marks}
use Rattle.model.specs.MarkRow.{bit_at, Shows}
use Rattle.laws.proofs.RoundTrips.{length_nodes}
use Rattle.promise.proofs.Lists.{length_keep}
use Rattle.repair.specs.Marks.{of_stem}
use Rattle.repair.proofs.Rows.{Notes}

-- the entry's name has the stem and the mark
abbrev pub uses : Name → ℕ → Entry → Bool
uses a m e = of_stem a e.node && eqb m e.node.name.mark

-- one that uses a mark is one of the marks in use
pub in_use : (a : Name) (m : ℕ) (es : List Entry) → list_any (uses a m) es ≡ any (eqb m) (marks a (nodes es))
in_use a m [] = refl
in_use a m (e ∷ es) = go (of_stem a e.node) (in_use a m es)
  where
    go : (b : Bool) → list_any (uses a m) es ≡ any (eqb m) (marks a (nodes es)) → ((b && eqb m e.node.name.mark) || list_any (uses a m) es) ≡ any (eqb m) (map (λ n. n.name.mark) (cond b (e.node ∷ keep (of_stem a) (nodes es)) (keep (of_stem a) (nodes es))))
    go true h = ap (λ (b : Bool). eqb m e.node.name.mark || b) h
    go false h = h

-- there are no more marks than entries
pub marks_few : (a : Name) (es : List Entry) → length (marks a (nodes es)) ≤ length es
marks_few a es =
    let kept = keep (of_stem a) (nodes es) in
    omega (arith, length-map kept (λ n. n.name.mark), length_keep (of_stem a) (nodes es), length_nodes es)

-- A row that is filled entry by entry

-- the row shows the marks that the entries use
abbrev pub ShowsUses : List ℕ → Name → List Entry → Type 0
ShowsUses ws a es = (m : ℕ) → m < 1024 → bit_at ws m ≡ list_any (uses a m) es

-- one entry more; whether it is of the stem is r
module _ (ws vs : List ℕ) (a : Name) (es : List Entry) (i : ℕ) (d : Entry) (r : Bool) (here : i < length es) (shown : ShowsUses ws a (take i es)) (is : r ≡ of_stem a (get_or es i d).node) where
  shows_more : ((m : ℕ) → m < 1024 → bit_at vs m ≡ (bit_at ws m || (r && eqb m (get_or es i d).node.name.mark))) → ShowsUses vs a (take (i + 1) es)
  shows_more step m l =
      step m l
      ∙ (ap₂ (λ (b s : Bool). b || (s && eqb m (get_or es i d).node.name.mark)) (shown m l) is ∙ sym (list_any_more (uses a m) es i d here))

  pub shows_noted : r ≡ true → Notes ws (get_or es i d).node.name.mark vs → ShowsUses vs a (take (i + 1) es)
  shows_noted s noted = shows_more (λ m l. noted m ∙ ap (λ (b : Bool). bit_at ws m || (b && eqb m (get_or es i d).node.name.mark)) (sym s))

  -- another stem, or too large a mark
  pub shows_left_out : vs ≡ ws → ((r ≡ true) × (1024 ≤ (get_or es i d).node.name.mark)) ⊎ (r ≡ false) → ShowsUses vs a (take (i + 1) es)
  shows_left_out e out =
      shows_more (λ m l.
      ap (λ (w : List ℕ). bit_at w m) e
      ∙ (sym (or-false (bit_at ws m))
      ∙ ap (λ (b : Bool). bit_at ws m || b) (sym (⊎_elim (λ large. and_right r _ (ne_eqb m _ (λ q. omega (arith, large.1)))) (and_left r _) out))))

pub shows_all : (ws : List ℕ) (a : Name) (es : List Entry) (i : ℕ) → length es ≤ i → ShowsUses ws a (take i es) → Shows ws (marks a (nodes es))
shows_all ws a es i l shown m h = shown m h ∙ (ap (list_any (uses a m)) (take_all i es l) ∙ in_use a m es)
