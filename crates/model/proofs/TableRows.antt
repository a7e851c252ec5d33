-- The code's table of kinds shows the rules' rows: each kind's at its place, and a word's kind is found in it.
use Rattle.std.proofs.Common.{◌≡◌, ℕ, ◌+◌, ◌-◌, ◌<◌, true, false, List, map, length, get_or, drop, Some, Option, sym, refl, ap, ◌∙◌, arith}
use lib.ListN.{length-map}
use Rattle.std.specs.Str.{bytes_eq}
use Rattle.std.proofs.lemmas.Slice.Eq.{bytes_eq-Decides}
use Rattle.std.proofs.lemmas.List.{get_or-map, drop_more}
use Rattle.std.proofs.lemmas.Bool.{cond-true, cond-false, and_parts, leb-true, false_from_ne_true}
use Rattle.model.specs.declared.kinds.Kind.{Kind}
use Rattle.model.specs.declared.kinds.Kind.TheVariants.{Card}
use Rattle.model.specs.declared.kinds.Children.{Children as CodeChildren}
use Rattle.model.specs.declared.kinds.KindRow.{KindRow}
use Rattle.model.specs.Lists.{first_with, between}
use Rattle.model.specs.Kinds.{Children, row, kinds, kind_number, sorts_below, child_sorts}
use Rattle.model.specs.Fields.{kind_of}
use Rattle.model.specs.Table.{RowOf, shown, shown_children, row_of, table}
use Rattle.model.proofs.KindTables.{kind_back, every_kind}

table_long : length table ≡ 25
unfolding table
table_long = refl

pub in_table : (xs : List KindRow) → map shown xs ≡ table → length xs ≡ 25
in_table xs e = sym (length-map xs shown) ∙ (ap length e ∙ table_long)

pub number_below : (k : Kind) (i : ℕ) → i + 1 ≡ kind_number k → i < 25
number_below k i e =
    let b = every_kind (λ l. between 1 25 (kind_number l)) refl k in
    omega (arith, leb-true (kind_number k) 25 (and_parts _ _ b).1)

pub at_place : (xs : List KindRow) (i : ℕ) (d : KindRow) → map shown xs ≡ table → i < 25 → shown (get_or xs i d) ≡ row_of (get_or kinds i Card)
unfolding table
at_place xs i d e b =
    let l = in_table xs e in
    sym (get_or-map shown xs i d (row_of Card) (omega arith))
    ∙ (ap (λ (t : List RowOf). get_or t i (row_of Card)) e ∙ get_or-map row_of kinds i Card (row_of Card) b)

-- each kind's row stands at its number
pub at_kind : (xs : List KindRow) (k : Kind) (i : ℕ) (d : KindRow) → map shown xs ≡ table → i + 1 ≡ kind_number k → shown (get_or xs i d) ≡ row_of k
at_kind xs k i d e p =
    let n : i ≡ kind_number k - 1 = omega arith in
    at_place xs i d e (number_below k i p) ∙ ap row_of (ap (λ (j : ℕ). get_or kinds j Card) n ∙ kind_back k)

-- the search for a word, from a row on
abbrev pub kind_from : List ℕ → ℕ → Option Kind
kind_from w i = first_with (λ k. bytes_eq w (row k).word) (drop i kinds)

pub from_first : (w : List ℕ) → kind_from w 0 ≡ kind_of w
unfolding kind_of
from_first w = refl

found_here : (w : List ℕ) (i : ℕ) → i < 25 → bytes_eq w (row (get_or kinds i Card)).word ≡ true → kind_from w i ≡ Some (get_or kinds i Card)
found_here w i b h = ap (first_with (λ k. bytes_eq w (row k).word)) (drop_more kinds i Card b) ∙ cond-true _ _ _ h

found_later : (w : List ℕ) (i : ℕ) → i < 25 → bytes_eq w (row (get_or kinds i Card)).word ≡ false → kind_from w i ≡ kind_from w (i + 1)
found_later w i b h = ap (first_with (λ k. bytes_eq w (row k).word)) (drop_more kinds i Card b) ∙ cond-false _ _ _ h

-- the word of the row at a place, compared
pub row_matches : (xs : List KindRow) (i : ℕ) (d : KindRow) (w : List ℕ) → map shown xs ≡ table → i < 25 → (get_or xs i d).word.now ≡ w → kind_from w i ≡ Some (get_or xs i d).kind
row_matches xs i d w e b s =
    let p = at_place xs i d e b in
    let q : (get_or xs i d).word.now ≡ (row (get_or kinds i Card)).word = ap (λ (t : RowOf). t.row.word) p in
    let k : (get_or xs i d).kind ≡ get_or kinds i Card = ap (λ (t : RowOf). t.kind) p in
    found_here w i b ((bytes_eq-Decides w (row (get_or kinds i Card)).word).1 (sym s ∙ q)) ∙ ap Some (sym k)

pub row_differs : (xs : List KindRow) (i : ℕ) (d : KindRow) (w : List ℕ) → map shown xs ≡ table → i < 25 → ((get_or xs i d).word.now ≡ w → ⊥) → kind_from w (i + 1) ≡ kind_from w i
row_differs xs i d w e b s =
    let q : (get_or xs i d).word.now ≡ (row (get_or kinds i Card)).word = ap (λ (t : RowOf). t.row.word) (at_place xs i d e b) in
    sym (found_later w i b (false_from_ne_true (bytes_eq w (row (get_or kinds i Card)).word) (λ h. s (q ∙ sym ((bytes_eq-Decides w (row (get_or kinds i Card)).word).0 h)))))

-- What a shown row says of its kind's children

pub children_are : (x : KindRow) (k : Kind) (cs : CodeChildren) → shown x ≡ row_of k → x.children ≡ cs → shown_children cs ≡ (row k).children
children_are x k cs e h = ap shown_children (sym h) ∙ ap (λ (t : RowOf). t.row.children) e

pub sorts_are : (x : KindRow) (k : Kind) (n : ℕ) (cs : CodeChildren) → shown x ≡ row_of k → x.children ≡ cs → sorts_below (shown_children cs) n ≡ child_sorts k n
sorts_are x k n cs e h = ap (λ (c : Children). sorts_below c n) (children_are x k cs e h)
