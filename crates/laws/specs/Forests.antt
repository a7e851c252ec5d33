-- Forests: a list of nodes grows into a forest and is read off again; names are no part of it.
use Rattle.std.specs.Prelude.{◌≡◌, List, length}
use Rattle.model.specs.declared.nodes.Node.{Node}
use Rattle.model.specs.Forest.{pre, grow, size, shape}
use Rattle.model.specs.Rules.{kinds_of, numbers_of}

pub record ForestLaws : Type 0 where
  pub read_off : (p : List Node) → pre (grow p) ≡ p
  pub sizes : (p : List Node) → size (grow p) ≡ length p
  pub kinds : (p : List Node) → pre (shape p) ≡ kinds_of p
  -- kinds and numbers give the nesting
  pub shapes : (p q : List Node) → kinds_of p ≡ kinds_of q → numbers_of p ≡ numbers_of q → shape p ≡ shape q
