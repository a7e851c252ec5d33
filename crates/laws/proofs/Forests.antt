-- Laws of forests: what grows from a list, and where its nodes stand.
use Rattle.std.proofs.Common.{◌≡◌, ℕ, zero, suc, ◌+◌, ◌-◌, ◌<◌, List, [], ◌∷◌, ◌++◌, map, length, get_or, drop, sym, refl, ap, ◌∙◌, subst, ap₂, subst₂, inl, inr, append_assoc, add-zero, arith}
use Rattle.std.specs.List.{AllByRecursion as All}
use Rattle.std.proofs.ByRecursion.{All-append}
use Rattle.std.proofs.lemmas.List.{get_or_at, get_or_append_left, get_or-append_right, append-nil, length-append, length-map, map-append, length_push, drop_more}
use Rattle.std.proofs.lemmas.Bool.{cases_lt}
use Rattle.model.specs.declared.nodes.Node.{Node}
use Rattle.model.specs.Forest.{Forest, nil, tree, first, after, arity, plant, grow, pre, size, children, kinds_only, beside, shape}
use Rattle.model.specs.Names.{no_name, blank, node_at, kind_at}
use Rattle.model.specs.Rules.{kinds_of, numbers_of}
use Rattle.laws.specs.Forests.{ForestLaws}

pub first_after : {A : Type 0} (n : ℕ) (f : Forest A) → pre (first n f) ++ pre (after n f) ≡ pre f
first_after zero f = refl
first_after (suc n) nil = refl
first_after (suc n) (tree a cs rest) = ap (λ r. a ∷ r) (append_assoc (pre cs) (pre (first n rest)) (pre (after n rest)) ∙ ap (λ r. pre cs ++ r) (first_after n rest))

pub pre_grow : (p : List Node) → pre (grow p) ≡ p
pre_grow [] = refl
pre_grow (n ∷ ns) = ap (λ r. n ∷ r) (first_after (arity n) (grow ns) ∙ pre_grow ns)

pub size_pre : {A : Type 0} (f : Forest A) → size f ≡ length (pre f)
size_pre nil = refl
size_pre (tree a cs rest) = let p = size_pre cs in let q = size_pre rest in simp length-append (omega arith)

pub size_grow : (p : List Node) → size (grow p) ≡ length p
size_grow p = size_pre (grow p) ∙ ap length (pre_grow p)

pub pre_kinds : (f : Forest Node) → pre (kinds_only f) ≡ kinds_of (pre f)
pre_kinds nil = refl
pre_kinds (tree n cs rest) = ap (λ r. n.kind ∷ r) (ap₂ (λ a b. a ++ b) (pre_kinds cs) (pre_kinds rest) ∙ sym (map-append (λ (m : Node). m.kind) (pre cs) (pre rest)))

pub pre_shape : (p : List Node) → pre (shape p) ≡ kinds_of p
pre_shape p = pre_kinds (grow p) ∙ ap kinds_of (pre_grow p)

pub size_shape : (p : List Node) → size (shape p) ≡ length p
size_shape p = size_pre (shape p) ∙ (ap length (pre_shape p) ∙ length-map p (λ n. n.kind))

-- Of a program only the kinds are kept, with their nesting

pub size_kinds : (f : Forest Node) → size (kinds_only f) ≡ size f
size_kinds nil = refl
size_kinds (tree n cs rest) = ap₂ (λ x y. 1 + (x + y)) (size_kinds cs) (size_kinds rest)

pub children_kinds : (f : Forest Node) → children (kinds_only f) ≡ kinds_only (children f)
children_kinds nil = refl
children_kinds (tree n cs rest) = refl

pub kinds_first : (k : ℕ) (f : Forest Node) → kinds_only (first k f) ≡ first k (kinds_only f)
kinds_first zero f = refl
kinds_first (suc k) nil = refl
kinds_first (suc k) (tree n cs rest) = ap (λ r. tree n.kind (kinds_only cs) r) (kinds_first k rest)

pub kinds_after : (k : ℕ) (f : Forest Node) → kinds_only (after k f) ≡ after k (kinds_only f)
kinds_after zero f = refl
kinds_after (suc k) nil = refl
kinds_after (suc k) (tree n cs rest) = kinds_after k rest

-- the shape of a list from a place on: the node there, over the shape of what follows
pub shape_at : (p : List Node) (j : ℕ) → j < length p → shape (drop j p) ≡ tree (kind_at p j) (first (arity (node_at p j)) (shape (drop (j + 1) p))) (after (arity (node_at p j)) (shape (drop (j + 1) p)))
shape_at p j l =
    let n = node_at p j in
    let ns = drop (j + 1) p in
    ap shape (drop_more p j blank l) ∙ ap₂ (λ a b. tree n.kind a b) (kinds_first (arity n) (grow ns)) (kinds_after (arity n) (grow ns))

-- names away
abbrev pub blanked : Node → Node
blanked n = record { kind = n.kind; name = no_name; number = n.number }

abbrev pub fmap : {A B : Type 0} → (A → B) → Forest A → Forest B
fmap g nil = nil
fmap g (tree a cs rest) = tree (g a) (fmap g cs) (fmap g rest)

fmap_first : {A B : Type 0} (g : A → B) (n : ℕ) (f : Forest A) → fmap g (first n f) ≡ first n (fmap g f)
fmap_first g zero f = refl
fmap_first g (suc n) nil = refl
fmap_first g (suc n) (tree a cs rest) = ap (λ r. tree (g a) (fmap g cs) r) (fmap_first g n rest)

fmap_after : {A B : Type 0} (g : A → B) (n : ℕ) (f : Forest A) → fmap g (after n f) ≡ after n (fmap g f)
fmap_after g zero f = refl
fmap_after g (suc n) nil = refl
fmap_after g (suc n) (tree a cs rest) = fmap_after g n rest

grow_blanked : (p : List Node) → grow (map blanked p) ≡ fmap blanked (grow p)
grow_blanked [] = refl
grow_blanked (n ∷ ns) =
    ap (plant (blanked n)) (grow_blanked ns)
    ∙ ap₂ (λ a b. tree (blanked n) a b) (sym (fmap_first blanked (arity n) (grow ns))) (sym (fmap_after blanked (arity n) (grow ns)))

blanked_alike : (p q : List Node) → kinds_of p ≡ kinds_of q → numbers_of p ≡ numbers_of q → map blanked p ≡ map blanked q
blanked_alike [] [] k n = refl
blanked_alike [] (y ∷ ys) k n = let z : ◌≡◌ {A = ℕ} 0 1 = cc in absurd (omega arith)
blanked_alike (x ∷ xs) [] k n = let z : ◌≡◌ {A = ℕ} 0 1 = cc in absurd (omega arith)
blanked_alike (x ∷ xs) (y ∷ ys) k n =
    let k0 : x.kind ≡ y.kind = cc in
    let n0 : x.number ≡ y.number = cc in
    let r = blanked_alike xs ys (cc) (cc) in
    ap₂ (λ a b. a ∷ b) (ap₂ (λ a b. record { kind = a; name = no_name; number = b }) k0 n0) r

kinds_blanked : (f : Forest Node) → kinds_only (fmap blanked f) ≡ kinds_only f
kinds_blanked nil = refl
kinds_blanked (tree n cs rest) = ap₂ (λ a b. tree n.kind a b) (kinds_blanked cs) (kinds_blanked rest)

pub children_fmap : {A B : Type 0} (g : A → B) (f : Forest A) → children (fmap g f) ≡ fmap g (children f)
children_fmap g nil = refl
children_fmap g (tree a cs rest) = refl

pub size_fmap : {A B : Type 0} (g : A → B) (f : Forest A) → size (fmap g f) ≡ size f
size_fmap g nil = refl
size_fmap g (tree a cs rest) = ap₂ (λ x y. 1 + (x + y)) (size_fmap g cs) (size_fmap g rest)

-- what a function of the forest that does not read names makes of alike programs
pub same_made : {X : Type 0} (F : Forest Node → X) → ((f : Forest Node) → F (fmap blanked f) ≡ F f) → (p q : List Node) → kinds_of p ≡ kinds_of q → numbers_of p ≡ numbers_of q → F (grow p) ≡ F (grow q)
same_made F h p q k n =
    sym (ap F (grow_blanked p) ∙ h (grow p)) ∙ (ap (λ r. F (grow r)) (blanked_alike p q k n) ∙ (ap F (grow_blanked q) ∙ h (grow q)))

pub same_shape : (p q : List Node) → kinds_of p ≡ kinds_of q → numbers_of p ≡ numbers_of q → shape p ≡ shape q
same_shape p q k n = same_made kinds_only kinds_blanked p q k n

pub forest_laws_lem : ForestLaws
forest_laws_lem = record { read_off = pre_grow; sizes = size_grow; kinds = pre_shape; shapes = same_shape }

pub pre_beside : {A : Type 0} (f g : Forest A) → pre (beside f g) ≡ pre f ++ pre g
pre_beside nil g = refl
pre_beside (tree a cs rest) g = ap (λ r. a ∷ r) (ap (λ r. pre cs ++ r) (pre_beside rest g) ∙ sym (append_assoc (pre cs) (pre rest) (pre g)))

-- Of each node with its place

abbrev pub Throughout : {A : Type 0} → (ℕ → A → Type 0) → ℕ → Forest A → Type 0
Throughout P at nil = Unit {0}
Throughout P at (tree a cs rest) = P at a × Throughout P (at + 1) cs × Throughout P (at + 1 + size cs) rest

pub throughout_map : {A : Type 0} (P Q : ℕ → A → Type 0) → ((i : ℕ) (a : A) → P i a → Q i a) → (at : ℕ) (f : Forest A) → Throughout P at f → Throughout Q at f
throughout_map P Q h at nil t = tt
throughout_map P Q h at (tree a cs rest) t = (h at a t.0, throughout_map P Q h (at + 1) cs t.1, throughout_map P Q h (at + 1 + size cs) rest t.2)

pub throughout_both : {A : Type 0} (P Q R : ℕ → A → Type 0) → ((i : ℕ) (a : A) → P i a → Q i a → R i a) → (at : ℕ) (f : Forest A) → Throughout P at f → Throughout Q at f → Throughout R at f
throughout_both P Q R h at nil s t = tt
throughout_both P Q R h at (tree a cs rest) s t =
    (h at a s.0 t.0, throughout_both P Q R h (at + 1) cs s.1 t.1, throughout_both P Q R h (at + 1 + size cs) rest s.2 t.2)

-- at every place, within the forest and past it
pub throughout_at : {A : Type 0} (P : ℕ → A → Type 0) (d : A) → ((i : ℕ) → P i d) → (at : ℕ) (f : Forest A) (k : ℕ) → Throughout P at f → P (at + k) (get_or (pre f) k d)
throughout_at P d past at nil k t = past (at + k)
throughout_at P d past at (tree a cs rest) zero t = subst (λ j. P j a) (sym (add-zero at)) t.0
throughout_at P d past at (tree a cs rest) (suc k) t =
    elim (cases_lt k (length (pre cs))) [
      | inl l ↦
          (let e : at + 1 + k ≡ at + suc k = omega arith in
          subst₂ P e (sym (get_or_append_left (pre cs) (pre rest) d k l)) (throughout_at P d past (at + 1) cs k t.1))
      | inr l ↦
          (let z = size_pre cs in
          let e : at + 1 + size cs + (k - length (pre cs)) ≡ at + suc k = omega arith in
          subst₂ P e (sym (get_or-append_right (pre cs) (pre rest) (length (pre cs)) k d refl l)) (throughout_at P d past (at + 1 + size cs) rest (k - length (pre cs)) t.2))
    ]

-- its nodes stand in the list from that place on
abbrev pub Placed : {A : Type 0} → A → List A → ℕ → Forest A → Type 0
Placed d ps at f = Throughout (λ i a. get_or ps i d ≡ a) at f

pub placed : {A : Type 0} (d : A) (ps before more : List A) (at : ℕ) (f : Forest A) → ps ≡ before ++ (pre f ++ more) → length before ≡ at → Placed d ps at f
placed d ps before more at nil e l = tt
placed d ps before more at (tree a cs rest) e l = (
  rw e (get_or_at before a ((pre cs ++ pre rest) ++ more) d at l),
  placed d ps (before ++ (a ∷ [])) (pre rest ++ more) (at + 1) cs (e ∙ simp append_assoc) (length_push before a ∙ ap (λ n. n + 1) l),
  placed d ps (before ++ (a ∷ pre cs)) more (at + 1 + size cs) rest (e ∙ simp append_assoc) (length-append before (a ∷ pre cs) ∙ (let z = size_pre cs in omega arith)),
)

pub placed_whole : {A : Type 0} (d : A) (f : Forest A) → Placed d (pre f) 0 f
placed_whole d f = placed d (pre f) [] [] 0 f (sym (append-nil (pre f))) refl

pub placed_children : {A : Type 0} (d : A) (ps : List A) (f : Forest A) → Placed d ps 0 f → Placed d ps 1 (children f)
placed_children d ps nil p = tt
placed_children d ps (tree a cs rest) p = p.1

pub placed_grown : (d : Node) (p : List Node) → Placed d p 1 (children (grow p))
placed_grown d p = placed_children d p (grow p) (subst (λ q. Placed d q 0 (grow p)) (pre_grow p) (placed_whole d (grow p)))

-- Of each node

abbrev pub Every : {A : Type 0} → (A → Type 0) → Forest A → Type 0
Every P nil = Unit {0}
Every P (tree a cs rest) = P a × Every P cs × Every P rest

pub every_beside : {A : Type 0} (P : A → Type 0) (f g : Forest A) → Every P f → Every P g → Every P (beside f g)
every_beside P nil g a b = b
every_beside P (tree x cs rest) g a b = (a.0, a.1, every_beside P rest g a.2 b)

pub every_throughout : {A : Type 0} (P : A → Type 0) (at : ℕ) (f : Forest A) → Every P f → Throughout (λ i a. P a) at f
every_throughout P at nil e = tt
every_throughout P at (tree a cs rest) e = (e.0, every_throughout P (at + 1) cs e.1, every_throughout P (at + 1 + size cs) rest e.2)

pub every_first : {A : Type 0} (P : A → Type 0) (n : ℕ) (f : Forest A) → Every P f → Every P (first n f)
every_first P zero f a = tt
every_first P (suc n) nil a = tt
every_first P (suc n) (tree x cs rest) a = (a.0, a.1, every_first P n rest a.2)

pub every_after : {A : Type 0} (P : A → Type 0) (n : ℕ) (f : Forest A) → Every P f → Every P (after n f)
every_after P zero f a = a
every_after P (suc n) nil a = tt
every_after P (suc n) (tree x cs rest) a = every_after P n rest a.2

pub every_children : {A : Type 0} (P : A → Type 0) (f : Forest A) → Every P f → Every P (children f)
every_children P nil h = tt
every_children P (tree n cs rest) h = h.1

pub every_pre : {A : Type 0} (P : A → Type 0) (f : Forest A) → Every P f → All P (pre f)
every_pre P nil a = tt
every_pre P (tree x cs rest) a = (a.0, All-append P (pre cs) (pre rest) (every_pre P cs a.1) (every_pre P rest a.2))

pub pre_every : {A : Type 0} (P : A → Type 0) (f : Forest A) (xs : List A) → All P (pre f ++ xs) → Every P f × All P xs
pre_every P nil xs a = (tt, a)
pre_every P (tree x cs rest) xs a =
    let q = pre_every P cs (pre rest ++ xs) (subst (All P) (append_assoc (pre cs) (pre rest) xs) a.1) in
    let r = pre_every P rest xs q.1 in
    ((a.0, q.0, r.0), r.1)
