-- The laws of the rounds: a class is respelled once, the repair ends, and fresh marks are small.
use Rattle.std.proofs.Common.{◌≡◌, ℕ, zero, suc, ◌+◌, ◌≤◌, Bool, true, false, cond, ◌&&◌, List, [], ◌∷◌, ◌++◌, length, get_or, is_some, Some, None, Option, sym, refl, ap, ◌∙◌, subst, ap₂, arith}
use Rattle.std.proofs.lemmas.Bool.{both_ways, false≢true, and_parts, cond-true, cond-false, false_from_ne_true}
use Rattle.model.specs.declared.nodes.Node.{Node}
use Rattle.model.specs.Lists.{keep, first_with, counting}
use Rattle.model.specs.Names.{name_at}
use Rattle.model.specs.Forest.{shape}
use Rattle.model.specs.Scopes.{Order, reach_by}
use Rattle.model.specs.declared.classes.Class.{Class}
use Rattle.model.specs.Classes.{together}
use Rattle.model.specs.Repair.{leads, captors, fresh, respell_all, round, Repairs, done, again}
use Rattle.model.specs.Rules.{Visible}
use Rattle.promise.specs.Rounds.{Classed, OneSpelling, Visits, Alone, RespelledOnce, Ends, RepairEnds, MarksSmall}
use Rattle.promise.specs.Reaching.{home}
use Rattle.promise.proofs.Lists.{first_first}
use Rattle.promise.proofs.Classes.{same_option, together_is, together_at, together_some, some_is}
use Rattle.promise.proofs.Respelling.{Same, same_trans, classed_same, respell_same, has_turn, by_turns, by_visits, round_same, round_one}
use Rattle.promise.proofs.DraftFrame.{frame, names, as_name, plain_none, named_is, turn_is, turns_is, captures_is, reach_is, unsettled_some, fresh_is, round_is, computed, class_count_is, lawful, one_frame}
use Rattle.promise.proofs.Frame.{plain, Frame, turn, turns, leads as leads_in, declared, first, home as home_in, fresh as FreshIn, Alone as AloneIn}
use Rattle.promise.proofs.FrameTests.{count_all}
use Rattle.promise.proofs.FrameTurns.{turn_parts, alone_free, alone_turns, alone_round}
use Rattle.promise.proofs.FrameEnds.{reach_home, settles}
use Rattle.promise.proofs.FrameMarks.{fresh_small}

-- what stands before a kept number is what is kept of the numbers before it
kept_before : (t : ℕ → Bool) (n at : ℕ) (xs : List ℕ) (e : ℕ) (ys : List ℕ) → keep t (counting at n) ≡ xs ++ e ∷ ys → (k : ℕ) × (e ≡ at + k) × (t e ≡ true) × (xs ≡ keep t (counting at k))
kept_before t zero at [] e ys h = absurd (omega (arith, ap length h))
kept_before t zero at (x ∷ xs) e ys h = absurd (omega (arith, ap length h))
kept_before t (suc n) at xs e ys h = go (t at) refl xs h (kept_before t n (at + 1))
  where
    go : (b : Bool) → t at ≡ b → (xs : List ℕ) → cond b (at ∷ keep t (counting (at + 1) n)) (keep t (counting (at + 1) n)) ≡ xs ++ e ∷ ys → ((xs : List ℕ) (e : ℕ) (ys : List ℕ) → keep t (counting (at + 1) n) ≡ xs ++ e ∷ ys → (k : ℕ) × (e ≡ at + 1 + k) × (t e ≡ true) × (xs ≡ keep t (counting (at + 1) k))) → (k : ℕ) × (e ≡ at + k) × (t e ≡ true) × (xs ≡ keep t (counting at k))
    go true q [] h f = let same : e ≡ at = cc in (0, omega arith, ap t same ∙ q, refl)
    go true q (x ∷ xs) h f =
        let same : x ≡ at = cc in
        let rest : keep t (counting (at + 1) n) ≡ xs ++ e ∷ ys = cc in
        let (k, a, b, c) = f xs e ys rest in
        (suc k, omega arith, b, ap₂ ◌∷◌ same c ∙ sym (cond-true (t at) _ _ q))
    go false q xs h f =
        let (k, a, b, c) = f xs e ys h in
        (suc k, omega arith, b, c ∙ sym (cond-false (t at) _ _ q))

one_result : (sees : ℕ → List ℕ) (cs : List (Option Class)) {p q r : List Node} {n m : ℕ} → Repairs sees cs p n q → Repairs sees cs p m r → (n ≡ m) × (q ≡ r)
one_result sees cs (done a) (done b) = (refl, refl)
one_result sees cs (done a) (again b t) = absurd (b a)
one_result sees cs (again a s) (done b) = absurd (a b)
one_result sees cs (again a s) (again b t) = let h = one_result sees cs s t in (ap suc h.0, h.1)

module _ (order : Order) (V : Visible order) (cs : List (Option Class)) (p : List Node) (f : Classed cs p) where
  abbrev sees : ℕ → List ℕ
  sees = order (shape p)

  abbrev F : Frame (List ℕ) (Option Class)
  F = frame sees cs p

  pub ends : Ends sees cs p
  ends =
      let (n, l, s) = settles F (lawful order V cs p f) (names p) in
      let few = count_all (λ e. leads_in F e && declared F e) (length cs) in
      let c = computed sees cs p (length p) n p f (omega (arith, f.long)) s in
      record {
        repairs = c.0;
        within = omega (arith, c.1, class_count_is sees cs p);
        only = λ k q r. one_result sees cs r c.0;
      }

  turn_in : (q : List Node) → Classed cs q → (before : List ℕ) (e : ℕ) (later : List ℕ) → captors sees cs q ≡ before ++ e ∷ later → turn F (names q) e ≡ true
  turn_in q g before e later h =
      let (k, _, t, _) = kept_before (has_turn sees cs q) (length q) 0 before e later h in
      sym (turn_is sees cs p q g.long e) ∙ t

  -- after a turn of its class and every later round
  module _ (e : ℕ) (t : turn F (names p) e ≡ true) where
    still_alone : {q : List Node} → Visits sees cs (round sees cs p) q → Classed cs q × AloneIn F (names q) e
    still_alone v =
        by_visits cs sees (λ q. AloneIn F (names q) e) (λ q g a. subst (λ nm. AloneIn F nm e) (sym (round_is sees cs p q g)) (alone_turns F (lawful order V cs p f) (names q) e (length cs) a)) v
        (classed_same cs p _ f (round_same cs sees p f))
        (subst (λ nm. AloneIn F nm e) (sym (round_is sees cs p p f)) (alone_round F (lawful order V cs p f) (names p) e t))

    alone : (q : List Node) → Visits sees cs (round sees cs p) q → Alone sees cs e q
    alone q v =
        let (g, a) = still_alone v in
        let (c, h) = some_is (get_or cs e None) (sym (named_is (get_or cs e None) _) ∙ (turn_parts F (lawful order V cs p f) (names p) e t).1) in
        let free = captures_is sees cs p q g.long e c h ∙ alone_free F (lawful order V cs p f) (names q) e a in
        record {
          spelling = λ i j k n s. together_at (get_or cs e None) (get_or cs j None) c h (a i j (named_is (get_or cs i None) _ ∙ (together_some _ _ k).1) (named_is (get_or cs j None) _ ∙ n) (sym (together_is _ _ k)) (ap as_name s));
          no_captor = free;
          no_turn = λ before later s. let (_, _, u, _) = kept_before (has_turn sees cs q) (length q) 0 before e later s in both_ways _ free (and_parts (leads cs e) _ u).1;
        }

  -- whenever a captor has its turn
  module _ (q : List Node) (g : Classed cs q) (before : List ℕ) (e : ℕ) (later : List ℕ) (h : captors sees cs q ≡ before ++ e ∷ later) where
    abbrev q' : List Node
    q' = respell_all before cs q

    small_at : OneSpelling cs q → F.role 0 ≡ plain → (fresh (name_at q' e) q').mark + 1 ≤ length cs
    unfolding turns
    small_at one z =
        let t = has_turn sees cs q in
        let (k, ek, te, ex) = kept_before t (length q) 0 before e later h in
        let k≡e : 0 + k ≡ e = sym ek in
        let same : Same q q' = subst (λ es. Same q (respell_all es cs q)) (sym ex) (by_turns cs (Same q) t (λ r d _ _ s. same_trans s (respell_same _ _ cs r)) (counting 0 k) q g (record { kinds = refl; numbers = refl })) in
        let named_so : names q' ≡ turns F (names q) e = ap (λ es. names (respell_all es cs q)) ex ∙ turns_is sees cs p (names q) t (turn_is sees cs p q g.long) k 0 q g refl ∙ ap (turns F (names q)) k≡e in
        let mark = fresh_is sees cs p q' (classed_same cs q q' g same) (name_at q' e) in
        let small = fresh_small F (lawful order V cs p f) z (names q) (one_frame order V cs p f q one) e (sym (turn_is sees cs p q g.long e) ∙ te) in
        let m : (fresh (name_at q' e) q').mark ≡ FreshIn F (turns F (names q) e) (turns F (names q) e e).stem = ap (λ n. n.mark) mark ∙ ap (λ nm. FreshIn F nm (nm e).stem) named_so in
        omega arith

-- without a captor a name reaches the first declaration of its class in sight
module _ (order : Order) (V : Visible order) (cs : List (Option Class)) (p : List Node) (f : Classed cs p) where
  home_is : (i : ℕ) → home (order (shape p)) cs i ≡ home_in (frame (order (shape p)) cs p) i
  unfolding home_in first
  home_is i = go (get_or cs i None) refl
    where
      at : (a b : Option Class) → is_some a ≡ true → together a b ≡ same_option a b
      at None b h = absurd (false≢true h)
      at (Some c) None h = refl
      at (Some c) (Some e) h = refl

      go : (o : Option Class) → get_or cs i None ≡ o → home (order (shape p)) cs i ≡ first (λ d. same_option (get_or cs i None) (get_or cs d None)) (order (shape p) i)
      go None h =
          let none = (lawful order V cs p f).unseen i (plain_none (get_or cs i None) _ (ap is_some h)) in
          ap (first_with (λ d. together (get_or cs i None) (get_or cs d None))) none ∙ sym (ap (first (λ d. same_option (get_or cs i None) (get_or cs d None))) none)
      go (Some c) h = first_first _ _ (order (shape p) i) (λ k. at (get_or cs i None) (get_or cs k None) (ap is_some h))

  pub settled_reach : (q : List Node) → Classed cs q → OneSpelling cs q → captors (order (shape p)) cs q ≡ [] → (i : ℕ) → reach_by (order (shape p)) q i ≡ home (order (shape p)) cs i
  settled_reach q g one e i =
      reach_is (order (shape p)) cs p q i
      ∙ reach_home (frame (order (shape p)) cs p) (lawful order V cs p f) (names q) (one_frame order V cs p f q one) (false_from_ne_true _ (λ u. unsettled_some (order (shape p)) cs p q g u e)) i
      ∙ sym (home_is i)

pub repair_ends_lem : RepairEnds
repair_ends_lem order V cs p f = ends order V cs p f

pub respelled_once_lem : RespelledOnce
respelled_once_lem order V cs p f before e later h q v = alone order V cs p f e (turn_in order V cs p f p f before e later h) q v

pub marks_small_lem : MarksSmall
marks_small_lem order V cs p f one z q v before e later h =
    let sees = order (shape p) in
    let (g, o) = by_visits cs sees (OneSpelling cs) (λ r k. round_one cs sees r k) v f one in
    omega (arith, small_at order V cs p f q g before e later h o (plain_none _ _ (sym (f.named_there 0) ∙ z)), f.long)
