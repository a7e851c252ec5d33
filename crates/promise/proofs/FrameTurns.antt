-- Over a frame: what one respelling and one round keep, and that a respelled class stays alone.
use Rattle.std.proofs.Common.{◌≡◌, ℕ, zero, suc, ◌+◌, ◌<◌, ◌≤◌, Bool, true, false, not, ◌&&◌, eqb, ◌⊎◌, Some, None, Option, sym, refl, ap, ◌∙◌, subst, inl, inr, ⊎_elim, arith}
use Rattle.std.proofs.lemmas.Bool.{cases_Bool, cases_eq, cases_lt, both_ways, false≢true, and_from, and_parts, eqb-true, eq-eqb, not-true, not_from_false, cond-true, cond-false, cond_both, false_from_ne_true}
use Rattle.std.proofs.lemmas.Option.{none-some}
use Rattle.promise.proofs.Frame.{first, within, Role, plain, declares, refers, is_named, is_declares, Name, Names, Frame, Lawful, named, peer, alike, reach, captured, captor, leads, taken, fresh, respell, turn, turns, round, OneSpelling, Alone, Capture}
use Rattle.promise.proofs.FrameTests.{any_some, any_at, count_all, pigeons, least_from, least_below, least_stuck, first_passes}

pub declares_from : (r : Role) → is_declares r ≡ true → r ≡ declares
declares_from plain h = absurd (false≢true h)
declares_from declares h = refl
declares_from refers h = absurd (false≢true h)

pub plain_from : (r : Role) → is_named r ≡ false → r ≡ plain
plain_from plain h = refl
plain_from declares h = absurd (both_ways true h refl)
plain_from refers h = absurd (both_ways true h refl)

-- what a reach tells
pub record Reached {S C : Type 0} (F : Frame S C) (nm : Names S) (i d : ℕ) : Type 0 where
  pub same : nm d ≡ nm i
  pub decl : F.role d ≡ declares
  pub is_name : named F d ≡ true
  pub by_name : named F i ≡ true

module _ {S C : Type 0} (F : Frame S C) where
  -- the new spelling of e's class
  abbrev pub fresh_name : Names S → ℕ → Name S
  fresh_name nm e = record { stem = (nm e).stem; mark = fresh F nm (nm e).stem }

module _ {S C : Type 0} (F : Frame S C) (L : Lawful F) where
  pub peers : (i j : ℕ) → peer F i j ≡ true → F.class_of i ≡ F.class_of j
  peers i j = (L.classes (F.class_of i) (F.class_of j)).0

  pub peer_at : (i j : ℕ) → F.class_of i ≡ F.class_of j → peer F i j ≡ true
  peer_at i j = (L.classes (F.class_of i) (F.class_of j)).1

  pub alike_same : (a b : Name S) → alike F a b ≡ true → a ≡ b
  alike_same a b h =
      let t = and_parts (F.same_stem a.stem b.stem) (eqb a.mark b.mark) h in
      let p = (L.stems a.stem b.stem).0 t.0 in
      let q = eqb-true a.mark b.mark t.1 in
      λ i. record { stem = p i; mark = q i }

  pub alike_at : (a b : Name S) → a ≡ b → alike F a b ≡ true
  alike_at a b e = and_from _ _ ((L.stems a.stem b.stem).1 (ap (λ n. n.stem) e)) (eq-eqb a.mark b.mark (ap (λ n. n.mark) e))

  pub in_range : (i : ℕ) → named F i ≡ true → i < F.size
  in_range i h = ⊎_elim (λ l. l) (λ g. absurd (both_ways (named F i) (ap is_named (L.past i g)) h)) (cases_lt i F.size)

  pub seer_named : (p : ℕ → Bool) (i d : ℕ) → first p (F.visible i) ≡ Some d → named F i ≡ true
  unfolding first
  seer_named p i d e = go (F.role i) refl
    where
      go : (r : Role) → F.role i ≡ r → is_named (F.role i) ≡ true
      go plain q = absurd (none-some d (sym (ap (first p) (L.unseen i q)) ∙ e))
      go declares q = ap is_named q
      go refers q = ap is_named q

  pub reached : (nm : Names S) (i d : ℕ) → reach F nm i ≡ Some d → Reached F nm i d
  unfolding reach
  reached nm i d e =
      let t = first_passes (λ d. alike F (nm d) (nm i)) (λ d. F.role d ≡ declares) (F.visible i) d (L.seen i) e in
      record { same = alike_same (nm d) (nm i) t.0; decl = t.1; is_name = ap is_named t.1; by_name = seer_named _ i d e }

  pub capture : (nm : Names S) (e : ℕ) → captor F nm e ≡ true → Capture F nm e
  unfolding captor captured
  capture nm e h =
      let (i, l, t) = any_some (captured F nm e) F.size h in go i (reach F nm i) refl t
    where
      go : (i : ℕ) (o : Option ℕ) → reach F nm i ≡ o → within (λ (d : ℕ). peer F d e && not (peer F i e)) o ≡ true → Capture F nm e
      go i None q t = absurd (false≢true t)
      go i (Some d) q t =
          let u = and_parts (peer F d e) (not (peer F i e)) t in
          record { by = i; at = d; reaches = q; its = peers d e u.0; other = λ c. both_ways (peer F i e) (not-true _ u.1) (peer_at i e c) }

  pub capture_at : (nm : Names S) (e : ℕ) → Capture F nm e → captor F nm e ≡ true
  unfolding captor captured
  capture_at nm e c =
      any_at (captured F nm e) F.size c.by (in_range c.by (reached nm c.by c.at c.reaches).by_name)
      (rw c.reaches (and_from _ _ (peer_at c.at e c.its) (not_from_false _ (false_from_ne_true _ (λ t. c.other (peers c.by e t))))))

  pub alone_free : (nm : Names S) (e : ℕ) → Alone F nm e → captor F nm e ≡ false
  alone_free nm e a = false_from_ne_true _ λ h.
      let c = capture nm e h in
      let r = reached nm c.by c.at c.reaches in
      c.other (a c.at c.by r.is_name r.by_name c.its (sym r.same))

  pub taken_by : (nm : Names S) (s : S) (m : ℕ) → taken F nm s m ≡ true → (j : ℕ) × (j < F.size) × (named F j ≡ true) × (nm j ≡ record { stem = s; mark = m })
  unfolding taken
  taken_by nm s m h =
      let (j, l, t) = any_some _ F.size h in
      let u = and_parts (named F j) (alike F (nm j) (record { stem = s; mark = m })) t in
      (j, l, u.0, alike_same (nm j) (record { stem = s; mark = m }) u.1)

  pub fresh_mark : (nm : Names S) (s : S) → (1 ≤ fresh F nm s) × (taken F nm s (fresh F nm s) ≡ false) × ((m : ℕ) → 1 ≤ m → m < fresh F nm s → taken F nm s m ≡ true)
  unfolding fresh
  fresh_mark nm s = (
    least_from (taken F nm s) F.size 1,
    false_from_ne_true _ (λ h. absurd (omega (
      arith,
      count_all (named F) F.size,
      pigeons F.size (λ j. (nm j).mark) (F.size + 1) (named F) (λ m a b.
          let (j, l, t, e) = taken_by nm s m (least_stuck (taken F nm s) F.size 1 h m a (omega arith)) in
          (j, l, t, ap (λ n. n.mark) e)),
    ))),
    least_below (taken F nm s) F.size 1,
  )

  pub unused : (nm : Names S) (e j : ℕ) → named F j ≡ true → nm j ≡ fresh_name F nm e → ⊥
  unfolding taken
  unused nm e j n q = both_ways _ (fresh_mark nm (nm e).stem).1 (any_at _ F.size j (in_range j n) (and_from _ _ n (alike_at (nm j) (fresh_name F nm e) q)))

  pub respelled : (nm : Names S) (e j : ℕ) → ((named F j ≡ true) × (F.class_of j ≡ F.class_of e) × (respell F nm e j ≡ fresh_name F nm e)) ⊎ ((named F j ≡ true → F.class_of j ≡ F.class_of e → ⊥) × (respell F nm e j ≡ nm j))
  unfolding respell
  respelled nm e j =
      ⊎_elim
      (λ t. let u = and_parts (named F j) (peer F j e) t in inl (u.0, peers j e u.1, cond-true _ _ _ t))
      (λ t. inr (λ n c. both_ways _ t (and_from _ _ n (peer_at j e c)), cond-false _ _ _ t))
      (cases_Bool (named F j && peer F j e))

  alone_made : (nm : Names S) (e : ℕ) → Alone F (respell F nm e) e
  alone_made nm e i j ni nj ci q =
      ⊎_elim
      (λ t. t.1)
      (λ t. ⊎_elim (λ u. absurd (unused nm e j nj (sym t.1 ∙ q ∙ u.2))) (λ u. absurd (u.0 ni ci)) (respelled nm e i))
      (respelled nm e j)

  alone_kept : (nm : Names S) (e x : ℕ) → Alone F nm x → Alone F (respell F nm e) x
  alone_kept nm e x a i j ni nj ci q =
      ⊎_elim
      (λ t. ⊎_elim (λ u. t.1 ∙ sym u.1 ∙ ci) (λ u. absurd (unused nm e i ni (sym u.1 ∙ sym q ∙ t.2))) (respelled nm e i))
      (λ t. ⊎_elim (λ u. absurd (unused nm e j nj (sym t.1 ∙ q ∙ u.2))) (λ u. a i j ni nj ci (sym t.1 ∙ q ∙ u.1)) (respelled nm e i))
      (respelled nm e j)

  one_kept : (nm : Names S) (e : ℕ) → OneSpelling F nm → OneSpelling F (respell F nm e)
  one_kept nm e o i j ni nj c =
      ⊎_elim
      (λ t. ⊎_elim (λ u. t.2 ∙ sym u.2) (λ u. absurd (u.0 nj (sym c ∙ t.1))) (respelled nm e j))
      (λ t. ⊎_elim (λ u. absurd (t.0 ni (c ∙ u.1))) (λ u. t.1 ∙ o i j ni nj c ∙ sym u.1) (respelled nm e j))
      (respelled nm e i)

  pub turn_parts : (nm : Names S) (e : ℕ) → turn F nm e ≡ true → (leads F e ≡ true) × (named F e ≡ true) × (captor F nm e ≡ true)
  unfolding leads
  turn_parts nm e t = let u = and_parts (leads F e) (captor F nm e) t in (u.0, (and_parts (named F e) _ u.0).0, u.1)

  -- what each respelling of a captor keeps, the turns keep
  pub by_turns : (nm : Names S) (P : Names S → Type 0) → ((m : Names S) (e : ℕ) → turn F nm e ≡ true → P m → P (respell F m e)) → P nm → (n : ℕ) → P (turns F nm n)
  unfolding turns
  by_turns nm P step base zero = base
  by_turns nm P step base (suc n) =
      let h = by_turns nm P step base n in
      cond_both (turn F nm n) (respell F (turns F nm n) n) (turns F nm n) P (λ t. step (turns F nm n) n t h) (λ _. h)

  pub one_turns : (nm : Names S) (n : ℕ) → OneSpelling F nm → OneSpelling F (turns F nm n)
  one_turns nm n o = by_turns nm (OneSpelling F) (λ m e _. one_kept m e) o n

  pub alone_turns : (nm : Names S) (x n : ℕ) → Alone F nm x → Alone F (turns F nm n) x
  alone_turns nm x n a = by_turns nm (λ m. Alone F m x) (λ m e _. alone_kept m e x) a n

  alone_after : (nm : Names S) (e n : ℕ) → turn F nm e ≡ true → e < n → Alone F (turns F nm n) e
  unfolding turns
  alone_after nm e zero t l = absurd (omega arith)
  alone_after nm e (suc n) t l =
      let P : Names S → Type 0 = λ m. Alone F m e in
      ⊎_elim
      (λ q. subst P (sym (cond-true (turn F nm n) _ _ (ap (turn F nm) (sym q) ∙ t))) (subst (λ x. Alone F (respell F (turns F nm n) n) x) (sym q) (alone_made (turns F nm n) n)))
      (λ q. let h = alone_after nm e n t (omega arith) in cond_both (turn F nm n) (respell F (turns F nm n) n) (turns F nm n) P (λ _. alone_kept (turns F nm n) n e h) (λ _. h))
      (cases_eq e n)

  pub alone_round : (nm : Names S) (e : ℕ) → turn F nm e ≡ true → Alone F (round F nm) e
  alone_round nm e t = alone_after nm e F.size t (in_range e (turn_parts nm e t).1)
