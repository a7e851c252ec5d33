use Rattle.std.proofs.Common.{◌≡◌, ℕ, ◌+◌, ◌-◌, ◌<◌, ◌≤◌, ◌^◌, ◌/◌, ◌%◌, List, [], ◌∷◌, ◌++◌, length, take, drop, set, decimal, append_assoc, append-nil, refl, sym, ap, ◌∙◌, subst, arith, length-append, length-drop}
use Rattle.std.proofs.lemmas.List.{drop-set, take_all, length-set}
use Rattle.std.proofs.lemmas.Fmt.{decimal_digit, decimal_step, length-decimal-le, decimal_nonempty}
use Rattle.script.proofs.writer.put_number.Goals as goal

at_most_ten : (n : ℕ) → n < 2 ^ 32 → length (decimal n) ≤ 10
at_most_ten n h = length-decimal-le 10 n (omega arith) (omega (arith, h)) (omega (arith, h))

-- the last digit of what is left is put before those that stand there
one_more : (n i j left : ℕ) (ds : List ℕ) → 10 ≤ left → left < 2 ^ 64 → i < length ds → j ≡ i → decimal n ≡ decimal left ++ drop (i + 1) ds → decimal n ≡ decimal (left / 10) ++ drop j (set ds i (48 + left % 10))
one_more n i j left ds h f b same e =
    e ∙ (ap (λ (l : List ℕ). l ++ drop (i + 1) ds) (decimal_step left h f)
    ∙ (append_assoc (decimal (left / 10)) ((48 + left % 10) ∷ []) (drop (i + 1) ds)
    ∙ ap (λ (l : List ℕ). decimal (left / 10) ++ l) (sym (ap (λ (k : ℕ). drop k (set ds i (48 + left % 10))) same ∙ drop-set ds i (48 + left % 10) b))))

one_shorter : (left : ℕ) → 10 ≤ left → left < 2 ^ 64 → length (decimal left) ≡ length (decimal (left / 10)) + 1
one_shorter left h f = ap length (decimal_step left h f) ∙ length-append (decimal (left / 10)) ((48 + left % 10) ∷ [])

some_before : (left : ℕ) → 10 ≤ left → left < 2 ^ 64 → 2 ≤ length (decimal left)
some_before left h f = omega (arith, one_shorter left h f, decimal_nonempty (left / 10) (omega (arith, f)))

-- and the first digit of all before the others
all_put : (n i left : ℕ) (ds : List ℕ) → left < 10 → length ds ≡ 10 → i ≤ 9 → decimal n ≡ decimal left ++ drop (i + 1) ds → take (10 - i) (drop i (set ds i (48 + left))) ≡ decimal n
all_put n i left ds h l b e =
    take_all (10 - i) (drop i (set ds i (48 + left))) (omega (arith, length-drop i (set ds i (48 + left)), length-set ds i (48 + left), l))
    ∙ (drop-set ds i (48 + left) (omega (arith, l, b))
    ∙ sym (e ∙ ap (λ (t : List ℕ). t ++ drop (i + 1) ds) (decimal_digit left h)))

pub loop-left-init : goal.loop-left-init
loop-left-init g c = record {
  text = sym (append-nil (decimal c.args.n));
  room = at_most_ten c.args.n c.ranges.n.fits;
  before = omega arith;
  long = refl;
}

pub bounds-digits-first : goal.bounds-digits-first
bounds-digits-first g c = omega (arith, c.loop-left.invariant.before)

pub overflow_sub-first : goal.overflow_sub-first
overflow_sub-first g c = omega (arith, some_before c.loop-left.left c.loop-left-test.true (omega (arith, c.loop-left.auto.left-fits)), c.loop-left.invariant.room)

pub loop-left-preserved : goal.loop-left-preserved
loop-left-preserved g c =
    let k = c.loop-left.invariant in
    let f : c.loop-left.left < 2 ^ 64 = omega (arith, c.loop-left.auto.left-fits) in
    let some = some_before c.loop-left.left c.loop-left-test.true f in
    record {
      text = one_more c.args.n c.loop-left.first _ c.loop-left.left c.loop-left.digits c.loop-left-test.true f (omega (arith, k.before, k.long)) (omega (arith, some, k.room)) k.text;
      room = omega (arith, one_shorter c.loop-left.left c.loop-left-test.true f, some, k.room);
      before = omega (arith, k.before);
      long = length-set c.loop-left.digits c.loop-left.first (48 + c.loop-left.left % 10) ∙ k.long;
    }

pub bounds-digits-first-2 : goal.bounds-digits-first-2
bounds-digits-first-2 g c = omega (arith, c.loop-left.invariant.before)

pub put-requires : goal.put-requires
put-requires g c =
    let k = c.loop-left.invariant in
    subst (λ (l : List ℕ). g.S.Sink.room c.args.out.now (length l)) (sym (all_put c.args.n c.loop-left.first c.loop-left.left c.loop-left.digits c.loop-left-test.false k.long k.before k.text)) c.requires

pub returns-clause-put : goal.returns-clause-put
returns-clause-put g c =
    let k = c.loop-left.invariant in
    subst (λ (l : List ℕ). g.S.Sink.grown c.args.out.now l c.put.new.self) (all_put c.args.n c.loop-left.first c.loop-left.left c.loop-left.digits c.loop-left-test.false k.long k.before k.text) c.put.ensures

pub returns-clause-short : goal.returns-clause-short
returns-clause-short g c = at_most_ten c.args.n c.ranges.n.fits
