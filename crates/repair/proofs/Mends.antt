-- The rounds one after another, until one finds no captor.
use Rattle.std.proofs.Common.{◌≡◌, ℕ, suc, ◌+◌, ◌<◌, ◌≤◌, true, false, not, ◌&&◌, List, [], ◌∷◌, length, Option, sym, refl, ap, ◌∙◌, subst, arith}
use Rattle.std.proofs.lemmas.Bool.{false≢true, true≢false}
use Rattle.model.specs.declared.nodes.Node.{Node}
use Rattle.model.specs.declared.nodes.Entry.{Entry}
use Rattle.model.specs.declared.classes.Class.{Class}
use Rattle.model.specs.Lists.{empty, places}
use Rattle.model.specs.Names.{nodes}
use Rattle.model.specs.Forest.{shape}
use Rattle.model.specs.Scopes.{Order}
use Rattle.model.specs.Repair.{leads, captors, respell_all, round, Repairs, done, again, repair}
use Rattle.model.specs.Stages.{with_origins}
use Rattle.model.specs.Rules.{Visible}
use Rattle.laws.proofs.Forests.{same_shape}
use Rattle.laws.proofs.Reaches.{length_counting}
use Rattle.laws.proofs.RoundTrips.{length_nodes}
use Rattle.promise.specs.Rounds.{Classed, has_declaration, Ends}
use Rattle.promise.proofs.Again.{nodes_with}
use Rattle.promise.proofs.Lists.{length_keep}
use Rattle.promise.proofs.Respelling.{Same, same_trans, same_length, classed_same}
use Rattle.promise.proofs.Rounds.{repair_ends_lem}
use Rattle.repair.proofs.Origins.{own_nodes, origins_again}
use Rattle.repair.proofs.Turns.{respell_all_same}

is_empty : (xs : List ℕ) → false ≡ not (empty xs) → xs ≡ []
is_empty [] h = refl
is_empty (x ∷ xs) h = absurd (false≢true h)

not_empty : (xs : List ℕ) → true ≡ not (empty xs) → xs ≡ [] → ⊥
not_empty [] h e = true≢false h
not_empty (x ∷ xs) h e = omega (arith, ap length e)

module _ (order : Order) (cs : List (Option Class)) (es : List Entry) where
  -- after so many rounds: what the row holds then is mended in as many rounds fewer, to the same
  pub record Mending (count : ℕ) (so_far : List Entry) : Type 0 where
    pub origins : so_far ≡ with_origins es (nodes so_far)
    pub same : Same (nodes es) (nodes so_far)
    pub onward : (m : ℕ) (q : List Node) → Repairs (order (shape (nodes es))) cs (nodes so_far) m q → Repairs (order (shape (nodes es))) cs (nodes es) (count + m) q

  abbrev pub all_rounds : ℕ
  all_rounds = (repair (order (shape (nodes es))) cs (nodes es)).rounds

  pub not_begun : Mending 0 es
  not_begun = record {
    origins = sym (own_nodes es);
    same = record { kinds = refl; numbers = refl };
    onward = λ m q r. let e : m ≡ 0 + m = omega arith in subst (λ (n : ℕ). Repairs (order (shape (nodes es))) cs (nodes es) n q) e r;
  }

module _ (order : Order) (V : Visible order) (cs : List (Option Class)) (es : List Entry) (classed : Classed cs (nodes es)) where
  abbrev p : List Node
  p = nodes es

  abbrev sees : ℕ → List ℕ
  sees = order (shape (nodes es))

  ends : Ends sees cs p
  ends = repair_ends_lem order V cs p classed

  -- never more than there are classes
  pub few_rounds : all_rounds order cs es ≤ length cs
  few_rounds =
      omega (arith, ends.within, length_keep (λ (e : ℕ). leads cs e && has_declaration cs p e) (places cs), length_counting 0 (length cs))

  -- the round from there on
  module _ (count : ℕ) (so_far : List Entry) (mending : Mending order cs es count so_far) where
    abbrev q : List Node
    q = nodes so_far

    seen_so : order (shape q) ≡ sees
    seen_so = ap order (same_shape q p mending.same.kinds mending.same.numbers)

    so_far_long : length q ≡ length es
    so_far_long = same_length p q mending.same ∙ length_nodes es

    pub no_captor_left : (next : List Entry) → false ≡ not (empty (captors (order (shape q)) cs q)) → next ≡ with_origins so_far (round (order (shape q)) cs q) → (count ≡ all_rounds order cs es) × (next ≡ with_origins es (repair (order (shape (nodes es))) cs (nodes es)).program)
    no_captor_left next f e =
        let none = is_empty (captors (order (shape q)) cs q) f in
        let last = ends.only (count + 0) q (mending.onward 0 q (done (ap (λ (s : ℕ → List ℕ). captors s cs q) (sym seen_so) ∙ none))) in (
          omega (arith, last.0),
          e
              ∙ (ap (λ (xs : List ℕ). with_origins so_far (respell_all xs cs q)) none
              ∙ (own_nodes so_far ∙ (mending.origins ∙ ap (with_origins es) last.1))),
        )

    module _ (f : true ≡ not (empty (captors (order (shape q)) cs q))) where
      some_captor : captors sees cs q ≡ [] → ⊥
      some_captor e = not_empty (captors (order (shape q)) cs q) f (ap (λ (s : ℕ → List ℕ). captors s cs q) seen_so ∙ e)

      round_so : round (order (shape q)) cs q ≡ round sees cs q
      round_so = ap (λ (s : ℕ → List ℕ). round s cs q) seen_so

      after_same : Same p (round sees cs q)
      after_same = same_trans mending.same (respell_all_same (captors sees cs q) cs q)

      after_long : length (round sees cs q) ≡ length es
      after_long = same_length p (round sees cs q) after_same ∙ length_nodes es

      onward_more : (m : ℕ) (r : List Node) → Repairs sees cs (round sees cs q) m r → Repairs sees cs p (count + 1 + m) r
      onward_more m r R = let e : count + suc m ≡ count + 1 + m = omega arith in subst (λ (n : ℕ). Repairs sees cs p n r) e (mending.onward (suc m) r (again some_captor R))

      pub one_more_round : (next : List Entry) → next ≡ with_origins so_far (round (order (shape q)) cs q) → Mending order cs es (count + 1) next
      one_more_round next e =
          let now_it = e ∙ (ap (with_origins so_far) round_so ∙ (ap (λ (d : List Entry). with_origins d (round sees cs q)) mending.origins ∙ origins_again es q (round sees cs q) so_far_long)) in
          let at = ap nodes now_it ∙ nodes_with es (round sees cs q) after_long in
          record {
            origins = now_it ∙ ap (with_origins es) (sym at);
            same = subst (Same p) (sym at) after_same;
            onward = λ m r R. onward_more m r (subst (λ (s : List Node). Repairs sees cs s m r) at R);
          }

      -- so this was not the last
      pub rounds_left : count < all_rounds order cs es
      rounds_left =
          let after = round sees cs q in
          let left = repair_ends_lem order V cs after (classed_same cs p after classed after_same) in
          let seen = ap order (same_shape after p after_same.kinds after_same.numbers) in
          let total = ends.only _ _ (onward_more _ _ (subst (λ (s : ℕ → List ℕ). Repairs s cs after (repair (order (shape after)) cs after).rounds (repair (order (shape after)) cs after).program) seen left.repairs)) in
          omega (arith, total.0)
