-- Over a frame: a fresh mark is below the number of entries.
use Rattle.std.proofs.Common.{◌≡◌, ℕ, zero, suc, ◌+◌, ◌-◌, ◌<◌, ◌≤◌, Bool, true, not, ◌&&◌, eqb, sym, refl, ap, ◌∙◌, subst, ⊎_elim, arith}
use Rattle.std.specs.List.{AllByRecursion as All}
use Rattle.std.proofs.lemmas.Bool.{cases_Bool, cases_eq, cases_lt, both_ways, and_from, and_parts, ne_eqb, eq-eqb, not-true, not_from_false, not_from_true, cond_both, false_from_ne_true}
use Rattle.promise.proofs.Frame.{plain, declares, is_named, is_declares, Names, Frame, Lawful, named, peer, alike, reach, leads, declared, fresh, respell, turn, turns, OneSpelling}
use Rattle.promise.proofs.FrameTests.{any_some, any_at, count_all, count_lt, pigeons, first_passes}
use Rattle.promise.proofs.FrameTurns.{declares_from, peers, peer_at, in_range, reached, capture, fresh_mark, taken_by, respelled, turn_parts, one_turns}

module _ {S C : Type 0} (F : Frame S C) (L : Lawful F) where
  -- an entry whose class has had no turn has its name still
  untouched : (nm : Names S) (j n : ℕ) → ((l : ℕ) → l < n → turn F nm l ≡ true → F.class_of j ≡ F.class_of l → ⊥) → turns F nm n j ≡ nm j
  unfolding turns
  untouched nm j zero h = refl
  untouched nm j (suc n) h =
      let e = untouched nm j n (λ l q. h l (omega arith)) in
      cond_both (turn F nm n) (respell F (turns F nm n) n) (turns F nm n) (λ m. m j ≡ nm j)
      (λ t. ⊎_elim (λ u. absurd (h n (omega arith) t u.1)) (λ u. u.1 ∙ e) (respelled F L (turns F nm n) n j))
      (λ _. e)

  -- two entries share a name when a captor has its turn: the name captured, and a declaration of its class or the one that it reached
  shared : (nm : Names S) → OneSpelling F nm → (e : ℕ) → turn F nm e ≡ true → (a b : ℕ) × (a ≡ b → ⊥) × (named F a ≡ true) × (named F b ≡ true) × (turns F nm e a ≡ turns F nm e b)
  unfolding reach leads declared
  shared nm one e t =
      let u = turn_parts F L nm e t in
      let c = capture F L nm e u.2 in
      let r = reached F L nm c.by c.at c.reaches in
      -- a declaration reaches itself alone, so the captured name is a reference
      let refers : F.role c.by ≡ declares → ⊥ = λ q.
      c.other (ap F.class_of (sym (first_passes (λ d. alike F (nm d) (nm c.by)) (λ d. d ≡ c.by) (F.visible c.by) c.at (subst (All (λ d. d ≡ c.by)) (sym (L.itself c.by q)) (refl, tt)) c.reaches).1) ∙ c.its) in
      ⊎_elim
      (λ h.
      let (d, l, v) = any_some (λ d. is_declares (F.role d) && peer F d c.by) F.size h in
      let w = and_parts (is_declares (F.role d)) (peer F d c.by) v in
      let k = declares_from (F.role d) w.0 in
      (c.by, d, λ q. refers (ap F.role q ∙ k), r.by_name, ap is_named k, one_turns F L nm e one c.by d r.by_name (ap is_named k) (sym (peers F L d c.by w.1))))
      (λ h. (
        c.by,
        c.at,
        λ q. refers (ap F.role q ∙ r.decl),
        r.by_name,
        r.is_name,
        untouched nm c.by e (λ l _ tl q.
            let c' = capture F L nm l (turn_parts F L nm l tl).2 in
            let r' = reached F L nm c'.by c'.at c'.reaches in
            both_ways _ h (any_at _ F.size c'.at (in_range F L c'.at r'.is_name) (and_from _ _ (ap is_declares r'.decl) (peer_at F L c'.at c.by (c'.its ∙ sym q)))))
            ∙ sym r.same
            ∙ sym (untouched nm c.at e (λ l le tl q.
            both_ways _ (not-true _ (and_parts (named F e) _ u.0).1) (any_at (λ j. named F j && peer F j e) e l le (and_from _ _ (turn_parts F L nm l tl).1 (peer_at F L l e (sym q ∙ c.its)))))),
      ))
      (cases_Bool (declared F c.by))

  pub fresh_small : F.role 0 ≡ plain → (nm : Names S) → OneSpelling F nm → (e : ℕ) → turn F nm e ≡ true → fresh F (turns F nm e) (turns F nm e e).stem + 1 ≤ F.size
  fresh_small z nm one e t =
      let m = turns F nm e in
      let s = (turns F nm e e).stem in
      let (a, b, ne, na, nb, q) = shared nm one e t in
      let p : ℕ → Bool = λ j. named F j && not (eqb j a) in
      let in_e = in_range F L e (turn_parts F L nm e t).1 in
      let others = count_lt (named F) p F.size a (λ j _ h. (and_parts (named F j) _ h).0) (in_range F L a na) (false_from_ne_true _ (λ h. both_ways (not (eqb a a)) (not_from_true _ (eq-eqb a a refl)) (and_parts (named F a) _ h).1)) na in
      let names = count_lt (λ _. true) (named F) F.size 0 (λ _ _ _. refl) (omega arith) (ap is_named z) refl in
      let all = count_all (λ _. true) F.size in
      let keeps : (j : ℕ) → named F j ≡ true → (i : ℕ) × (i < F.size) × (p i ≡ true) × ((m i).mark ≡ (m j).mark) = λ j nj.
      ⊎_elim
      (λ x. (b, in_range F L b nb, and_from _ _ nb (not_from_false _ (ne_eqb b a (λ y. ne (sym y)))), ap (λ n. n.mark) (sym q) ∙ ap (λ k. (m k).mark) (sym x)))
      (λ x. (j, in_range F L j nj, and_from _ _ nj (not_from_false _ (ne_eqb j a x)), refl))
      (cases_eq j a) in
      ⊎_elim
      (λ l. omega arith)
      (λ l. absurd (omega (
        arith,
        pigeons F.size (λ j. (m j).mark) (F.size - 1) p (λ k x y.
            let (j, lj, nj, ej) = taken_by F L m s k ((fresh_mark F L m s).2 k x (omega arith)) in
            let (i, li, pi, ei) = keeps j nj in
            (i, li, pi, ei ∙ ap (λ n. n.mark) ej)),
      )))
      (cases_lt (fresh F m s) F.size)
