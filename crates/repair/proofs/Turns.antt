-- One round, turn by turn.
use Rattle.std.proofs.Common.{◌≡◌, ℕ, zero, suc, ◌+◌, ◌<◌, ◌≤◌, Bool, true, false, cond, not, ◌&&◌, List, [], ◌∷◌, ◌++◌, length, get_or, drop, replicate, None, Option, sym, refl, ap, ◌∙◌, ap₂, append-nil, add-one, arith}
use Rattle.std.proofs.lemmas.List.{get_or-map, get_or_append_left, take_all, length-replicate}
use Rattle.std.proofs.lemmas.Bool.{cond-true, cond-false}
use Rattle.model.specs.declared.nodes.Node.{Node}
use Rattle.model.specs.declared.nodes.Entry.{Entry}
use Rattle.model.specs.Lists.{keep, counting, empty}
use Rattle.model.specs.Names.{nodes}
use Rattle.model.specs.Forest.{shape}
use Rattle.model.specs.Scopes.{Order, reach_by, reaches}
use Rattle.model.specs.declared.classes.Class.{Class}
use Rattle.model.specs.Classes.{together}
use Rattle.model.specs.Repair.{leads, class_reached, captures, classes_reached, respell_all}
use Rattle.model.specs.Stages.{with_origins}
use Rattle.laws.proofs.RoundTrips.{length_nodes}
use Rattle.laws.proofs.Reaches.{length_reaches}
use Rattle.promise.proofs.Again.{nodes_with}
use Rattle.promise.proofs.Lists.{any_below, get_or_places}
use Rattle.promise.proofs.Reaches.{reaches_at}
use Rattle.promise.proofs.Respelling.{Same, same_trans, same_length, respell_same, respelled_at, has_turn}
use Rattle.scope.specs.Finding.{overlaid}
use Rattle.repair.specs.declared.rounds.UnderRepair.{UnderRepair}
use Rattle.repair.specs.Lent.{SameRows}
use Rattle.repair.specs.Rounds.{classes_of, captured}
use Rattle.repair.proofs.Origins.{own_nodes, origins_again}

-- What is kept of one number more

counting_more : (a n : ℕ) → counting a (suc n) ≡ counting a n ++ (a + n) ∷ []
counting_more a zero = ap (λ (i : ℕ). i ∷ []) (omega arith)
counting_more a (suc n) =
    let e : a + 1 + n ≡ a + suc n = omega arith in
    ap (◌∷◌ a) (counting_more (a + 1) n ∙ ap (λ (i : ℕ). counting (a + 1) n ++ i ∷ []) e)

keep_more : (t : ℕ → Bool) (xs : List ℕ) (x : ℕ) → keep t (xs ++ x ∷ []) ≡ keep t xs ++ cond (t x) (x ∷ []) []
keep_more t [] x = refl
keep_more t (y ∷ ys) x = go (t y) (keep_more t ys x)
  where
    go : (b : Bool) → keep t (ys ++ x ∷ []) ≡ keep t ys ++ cond (t x) (x ∷ []) [] → cond b (y ∷ keep t (ys ++ x ∷ [])) (keep t (ys ++ x ∷ [])) ≡ cond b (y ∷ keep t ys) (keep t ys) ++ cond (t x) (x ∷ []) []
    go true h = ap (◌∷◌ y) h
    go false h = h

module _ (t : ℕ → Bool) (i : ℕ) where
  kept_more : keep t (counting 0 (i + 1)) ≡ keep t (counting 0 i) ++ cond (t i) (i ∷ []) []
  kept_more =
      let e : 0 + i ≡ i = omega arith in
      ap (λ (n : ℕ). keep t (counting 0 n)) (add-one i)
      ∙ (ap (keep t) (counting_more 0 i ∙ ap (λ (j : ℕ). counting 0 i ++ j ∷ []) e) ∙ keep_more t (counting 0 i) i)

  kept_taken : t i ≡ true → keep t (counting 0 (i + 1)) ≡ keep t (counting 0 i) ++ i ∷ []
  kept_taken h = kept_more ∙ ap (λ (xs : List ℕ). keep t (counting 0 i) ++ xs) (cond-true (t i) (i ∷ []) [] h)

  kept_passed : t i ≡ false → keep t (counting 0 (i + 1)) ≡ keep t (counting 0 i)
  kept_passed h = kept_more ∙ (ap (λ (xs : List ℕ). keep t (counting 0 i) ++ xs) (cond-false (t i) (i ∷ []) [] h) ∙ append-nil (keep t (counting 0 i)))

not_empty_more : (xs : List ℕ) (x : ℕ) → true ≡ not (empty (xs ++ x ∷ []))
not_empty_more [] x = refl
not_empty_more (y ∷ ys) x = refl

-- One respelling more

respell_more : (xs : List ℕ) (e : ℕ) (cs : List (Option Class)) (p : List Node) → respell_all (xs ++ e ∷ []) cs p ≡ respelled_at cs e (respell_all xs cs p)
respell_more [] e cs p = refl
respell_more (x ∷ xs) e cs p = respell_more xs e cs (respelled_at cs x p)

pub respell_all_same : (xs : List ℕ) (cs : List (Option Class)) (p : List Node) → Same p (respell_all xs cs p)
respell_all_same [] cs p = record { kinds = refl; numbers = refl }
respell_all_same (x ∷ xs) cs p = same_trans (respell_same _ _ cs p) (respell_all_same xs cs (respelled_at cs x p))

-- the turns of the first i places were taken: which have one is t
pub record Turned (cs : List (Option Class)) (es : List Entry) (t : ℕ → Bool) (i : ℕ) (so_far : List Entry) (found : Bool) : Type 0 where
  pub entries : so_far ≡ with_origins es (respell_all (keep t (counting 0 i)) cs (nodes es))
  pub some : found ≡ not (empty (keep t (counting 0 i)))

module _ (cs : List (Option Class)) (es : List Entry) (t : ℕ → Bool) where
  abbrev after : List ℕ → List Node
  after xs = respell_all xs cs (nodes es)

  after_long : (xs : List ℕ) → length (after xs) ≡ length es
  after_long xs = same_length (nodes es) (after xs) (respell_all_same xs cs (nodes es)) ∙ length_nodes es

  pub no_turn_yet : Turned cs es t 0 es false
  no_turn_yet = record { entries = sym (own_nodes es); some = refl }

  module _ (i : ℕ) (so_far : List Entry) (found : Bool) (turned : Turned cs es t i so_far found) where
    abbrev before : List ℕ
    before = keep t (counting 0 i)

    now_nodes : nodes so_far ≡ after before
    now_nodes = ap nodes turned.entries ∙ nodes_with es (after before) (after_long before)

    pub turn_taken : (last next : List Entry) (r : Bool) → t i ≡ true → last ≡ with_origins so_far (respelled_at cs i (nodes so_far)) → next ≡ last → r ≡ true → Turned cs es t (i + 1) next r
    turn_taken last next r h e n f =
        let more = kept_taken t i h in
        record {
          entries =
              (n ∙ e)
              ∙ (ap₂ (λ (d : List Entry) (q : List Node). with_origins d (respelled_at cs i q)) turned.entries now_nodes
              ∙ (origins_again es (after before) _ (after_long before)
              ∙ ap (with_origins es) (sym (ap after more ∙ respell_more before i cs (nodes es)))));
          some = f ∙ (not_empty_more before i ∙ ap (λ (xs : List ℕ). not (empty xs)) (sym more));
        }

    pub turn_passed : (next : List Entry) (r : Bool) → t i ≡ false → next ≡ so_far → r ≡ found → Turned cs es t (i + 1) next r
    turn_passed next r h e f =
        let same = sym (kept_passed t i h) in
        record {
          entries = e ∙ (turned.entries ∙ ap (λ (xs : List ℕ). with_origins es (after xs)) same);
          some = f ∙ (turned.some ∙ ap (λ (xs : List ℕ). not (empty xs)) same);
        }

-- Who has a turn, by a row of reaches

overlaid_at : {A : Type 0} (xs row : List A) (i : ℕ) (d : A) → length xs ≤ length row → i < length xs → get_or (overlaid xs row) i d ≡ get_or xs i d
overlaid_at xs row i d l h =
    ap (λ ys. get_or (ys ++ drop (length xs) row) i d) (take_all (length row) xs l) ∙ get_or_append_left xs (drop (length xs) row) d i h

module _ (order : Order) (cs : List (Option Class)) (p : List Node) (row : List (Option ℕ)) (long : length cs ≡ length p) (few : length p ≤ 1024) (row_long : length row ≡ 1024) (is : row ≡ overlaid (reaches order p) (replicate 1024 None)) where
  row_at : (i : ℕ) → i < length p → get_or row i None ≡ reach_by (order (shape p)) p i
  row_at i l =
      ap (λ (xs : List (Option ℕ)). get_or xs i None) is
      ∙ (overlaid_at (reaches order p) (replicate 1024 None) i None (omega (arith, length_reaches order p, length-replicate {A = Option ℕ} 1024 None)) (omega (arith, length_reaches order p))
      ∙ reaches_at order p i l)

  same_classes : (i : ℕ) → i < length cs → get_or (classes_of cs row) i None ≡ get_or (classes_reached (order (shape p)) cs p) i None
  same_classes i l =
      get_or-map (class_reached cs) row i None None (omega (arith, row_long))
      ∙ (ap (class_reached cs) (row_at i (omega arith)) ∙ sym (get_or_places (λ (j : ℕ). class_reached cs (reach_by (order (shape p)) p j)) p i None (omega arith)))

  same_captured : (e i : ℕ) → i < length cs → captured cs (classes_of cs row) e i ≡ captured cs (classes_reached (order (shape p)) cs p) e i
  same_captured e i l = ap (λ (c : Option Class). together (get_or cs e None) c && not (together (get_or cs e None) (get_or cs i None))) (same_classes i l)

  pub turn_is : (e : ℕ) (r : Bool) → r ≡ (leads cs e && captures cs (classes_of cs row) e) → has_turn (order (shape p)) cs p e ≡ r
  turn_is e r h =
      let there = captured cs (classes_reached (order (shape p)) cs p) e in
      sym (h ∙ ap (λ (b : Bool). leads cs e && b) (any_below (captured cs (classes_of cs row) e) there (length cs) (same_captured e) ∙ sym (any_below there there (length cs) (λ i l. refl))))

-- The rows stay

pub rows_on : (a b c d : UnderRepair) → SameRows a b → SameRows b c → d ≡ c → SameRows a d
rows_on a b c d first next e = (
  ap (λ (x : UnderRepair). x.entries.ghost_name) e ∙ (next.0 ∙ first.0),
  ap (λ (x : UnderRepair). x.classes) e ∙ (next.1 ∙ first.1),
  ap (λ (x : UnderRepair). x.words.ghost_name) e ∙ (next.2 ∙ first.2),
)
