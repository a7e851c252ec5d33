-- Over a frame: where no class is a captor every name reaches its own class, and it comes to that within as many rounds as classes have a declaration.
use Rattle.std.proofs.Common.{◌≡◌, ℕ, zero, suc, ◌<◌, ◌≤◌, Bool, true, false, not, ◌&&◌, ◌||◌, Some, sym, refl, ap, ◌∙◌, ⊎_elim, arith}
use Rattle.std.proofs.lemmas.Bool.{cases_Bool, both_ways, and_from, and_parts, and_right, or_cases, or_right, or_parts, not-true, not_from_false, not_from_true, false_from_ne_true}
use Rattle.std.proofs.ByRecursion.{All-weaker}
use Rattle.promise.proofs.Frame.{any, count, is_declares, Names, Frame, Lawful, named, peer, reach, captor, leads, declared, turn, round, unsettled, class_count, Settles, first, home, alike, is_named, declares, OneSpelling, Alone}
use Rattle.promise.proofs.FrameTests.{any_some, any_at, count_le, count_lt, first_same}
use Rattle.promise.proofs.FrameTurns.{plain_from, alike_at, peers, peer_at, in_range, reached, capture, capture_at, alone_free, turn_parts, alone_turns, alone_round}

module _ {S C : Type 0} (F : Frame S C) (L : Lawful F) where
  -- the lowest entry of a class
  leader : (n i : ℕ) → i < n → named F i ≡ true → (l : ℕ) × (leads F l ≡ true) × (F.class_of l ≡ F.class_of i)
  unfolding leads
  leader zero i l h = absurd (omega arith)
  leader (suc n) i l h =
      ⊎_elim
      (λ t.
      let (j, lj, u) = any_some (λ j. named F j && peer F j i) i t in
      let v = and_parts (named F j) (peer F j i) u in
      let (k, lk, ck) = leader n j (omega arith) v.0 in
      (k, lk, ck ∙ peers F L j i v.1))
      (λ t. (i, and_from _ _ h (not_from_false _ t), refl))
      (cases_Bool (any (λ j. named F j && peer F j i) i))

  -- without a captor every reach is of the name's own class
  settled_own : (nm : Names S) → unsettled F nm ≡ false → (i d : ℕ) → reach F nm i ≡ Some d → F.class_of d ≡ F.class_of i
  settled_own nm u i d e =
      ⊎_elim
      (λ t. peers F L d i t)
      (λ t.
      let r = reached F L nm i d e in
      let (l, ll, c) = leader (suc d) d (omega arith) r.is_name in
      let k = capture_at F L nm l (record { by = i; at = d; reaches = e; its = sym c; other = λ o. both_ways _ t (peer_at F L d i (sym c ∙ sym o)) }) in
      absurd (both_ways _ u (any_at (turn F nm) F.size l (in_range F L l (turn_parts F L nm l (and_from _ _ ll k)).1) (and_from _ _ ll k))))
      (cases_Bool (peer F d i))

  -- without a captor, what a name reaches goes by classes and what is visible alone
  pub reach_home : (nm : Names S) → OneSpelling F nm → unsettled F nm ≡ false → (i : ℕ) → reach F nm i ≡ home F i
  unfolding reach home first
  reach_home nm o u i =
      ⊎_elim
      (λ n. first_same (λ d. alike F (nm d) (nm i)) (λ d. peer F d i) (F.visible i)
      (All-weaker (λ d. F.role d ≡ declares) (λ d. peer F d i ≡ true → alike F (nm d) (nm i) ≡ true) (λ d k p. alike_at F L (nm d) (nm i) (o d i (ap is_named k) n (peers F L d i p))) (F.visible i) (L.seen i))
      (λ d e. peer_at F L d i (settled_own nm u i d e)))
      (λ n. let v = L.unseen i (plain_from (F.role i) n) in ap (first (λ d. alike F (nm d) (nm i))) v ∙ sym (ap (first (λ d. peer F d i)) v))
      (cases_Bool (named F i))

  captor_declared : (nm : Names S) (e : ℕ) → captor F nm e ≡ true → declared F e ≡ true
  unfolding declared
  captor_declared nm e h =
      let c = capture F L nm e h in
      let r = reached F L nm c.by c.at c.reaches in
      any_at _ F.size c.at (in_range F L c.at r.is_name) (and_from _ _ (ap is_declares r.decl) (peer_at F L c.at e c.its))

  -- classes with a declaration that are not marked as done
  left : (ℕ → Bool) → ℕ → Bool
  left D e = (leads F e && declared F e) && not (D e)

  -- a round in which the classes of D are alone already
  module _ (nm : Names S) (D : ℕ → Bool) (a : (e : ℕ) → D e ≡ true → Alone F nm e) where
    is_left : (e : ℕ) → turn F nm e ≡ true → left D e ≡ true
    unfolding left
    is_left e t =
        let u = turn_parts F L nm e t in
        and_from _ _ (and_from _ _ u.0 (captor_declared nm e u.2)) (not_from_false _ (false_from_ne_true _ (λ d. both_ways _ (alone_free F L nm e (a e d)) u.2)))

    abbrev next : ℕ → Bool
    next e = D e || turn F nm e

    next_alone : (e : ℕ) → next e ≡ true → Alone F (round F nm) e
    next_alone e h = ⊎_elim (λ d. alone_turns F L nm e F.size (a e d)) (λ t. alone_round F L nm e t) (or_cases (D e) (turn F nm e) h)

    fewer : unsettled F nm ≡ true → count (left next) F.size < count (left D) F.size
    unfolding left
    fewer h =
        let (e, le, t) = any_some (turn F nm) F.size h in
        count_lt (left D) (left next) F.size e
        (λ j _ v. let w = and_parts _ (not (next j)) v in and_from _ _ w.0 (not_from_false _ (or_parts (D j) (turn F nm j) (not-true _ w.1)).0))
        le
        (and_right _ _ (not_from_true _ (or_right (D e) (turn F nm e) t)))
        (is_left e t)

  go_on : (f : ℕ) (nm : Names S) (D : ℕ → Bool) → ((e : ℕ) → D e ≡ true → Alone F nm e) → count (left D) F.size ≤ f → (n : ℕ) × (n ≤ f) × Settles F nm n
  go_on zero nm D a l = (0, omega arith, false_from_ne_true _ (λ h. absurd (omega (arith, fewer nm D a h))))
  go_on (suc f) nm D a l =
      ⊎_elim
      (λ h.
      let k = fewer nm D a h in
      let (n, ln, p) = go_on f (round F nm) (next nm D a) (next_alone nm D a) (omega arith) in
      (suc n, omega arith, (h, p)))
      (λ h. (0, omega arith, h))
      (cases_Bool (unsettled F nm))

  pub settles : (nm : Names S) → (n : ℕ) × (n ≤ class_count F) × Settles F nm n
  unfolding left
  settles nm = go_on (class_count F) nm (λ _. false) (λ e h. absurd (both_ways false refl h)) (count_le (λ e. leads F e && declared F e) (left (λ _. false)) F.size (λ j _ h. (and_parts (leads F j && declared F j) true h).0))
