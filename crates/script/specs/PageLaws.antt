-- The counter and the page keep the laws of sinks.
use Rattle.std.proofs.Common.{◌≡◌, ℕ, ◌+◌, ◌≤◌, List, [], ◌++◌, length, take, drop, sym, ap, ◌∙◌, refl, append_assoc, arith, length-append, take-append-drop, length-take-le}
use Rattle.std.proofs.lemmas.List.{length-drop, take_at, drop_at, drop-drop}
use Rattle.script.specs.Buffers.{pasted}
use Rattle.script.specs.Sinks.{SinkLaws}
use Rattle.script.specs.Pages.{CanCount, Counts, HasRoom, Pastes}

pub counter_laws : SinkLaws CanCount Counts
counter_laws =
    record {
      fewer = λ s m n h r. tt;
      left = λ s t xs n r g. tt;
      nothing = λ s h. omega arith;
      further = λ s t u xs ys r g h l.
          let n = length-append xs ys in
          let e = g (omega (arith, l, n)) in
          omega (arith, e, h (omega (arith, l, n, e)), n);
    }

-- nothing pasted
paste_none : (d : List ℕ) (a : ℕ) → pasted d a [] ≡ d
paste_none d a = let e : a + 0 ≡ a = omega arith in ap (λ (j : ℕ). take a d ++ drop j d) e ∙ take-append-drop a d

paste_keeps : (d : List ℕ) (a : ℕ) (s : List ℕ) → a + length s ≤ length d → length (pasted d a s) ≡ length d
paste_keeps d a s h =
    omega (arith, length-append (take a d) (s ++ drop (a + length s) d), length-append s (drop (a + length s) d), length-take-le a d (omega arith), length-drop (a + length s) d)

-- one text after another
paste_after : (d : List ℕ) (a : ℕ) (s t : List ℕ) → a + length s ≤ length d → pasted (pasted d a s) (a + length s) t ≡ pasted d a (s ++ t)
paste_after d a s t h =
    let k = a + length s in
    let p = take a d ++ s in
    let r = drop k d in
    let long : length p ≡ k = length-append (take a d) s ∙ ap (λ n. n + length s) (length-take-le a d (omega arith)) in
    let whole : pasted d a s ≡ p ++ r = sym (append_assoc (take a d) s r) in
    let past : drop (k + length t) (p ++ r) ≡ drop (a + length (s ++ t)) d = sym (drop-drop (length t) k (p ++ r)) ∙ (ap (drop (length t)) (drop_at p r k long) ∙ (drop-drop (length t) k d ∙ ap (λ (j : ℕ). drop j d) (sum))) in
    ap (λ (l : List ℕ). pasted l k t) whole
    ∙ (ap (λ (l : List ℕ). l ++ (t ++ drop (k + length t) (p ++ r))) (take_at p r k long)
    ∙ (append_assoc (take a d) s (t ++ drop (k + length t) (p ++ r))
    ∙ (ap (λ (l : List ℕ). take a d ++ l) (sym (append_assoc s t (drop (k + length t) (p ++ r))))
    ∙ ap (λ (l : List ℕ). take a d ++ ((s ++ t) ++ l)) past)))
  where
    sum : a + length s + length t ≡ a + length (s ++ t)
    sum = omega (arith, length-append s t)

pub page_laws : SinkLaws HasRoom Pastes
page_laws =
    record {
      fewer = λ s m n h r. omega (arith, h, r);
      left = λ s t xs n r g. omega (arith, r, g.end, ap length g.bytes, paste_keeps s.bytes.now s.end xs (omega (arith, r)));
      nothing = λ s. record { end = omega arith; bytes = sym (paste_none s.bytes.now s.end); same = refl };
      further = λ s t u xs ys r g h. record {
        end = omega (arith, g.end, h.end, length-append xs ys);
        bytes = h.bytes ∙ (ap (λ (l : List ℕ). pasted l t.end ys) g.bytes ∙ (ap (λ (k : ℕ). pasted (pasted s.bytes.now s.end xs) k ys) g.end ∙ paste_after s.bytes.now s.end xs ys r));
        same = h.same ∙ g.same;
      };
    }
