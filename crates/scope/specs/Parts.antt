-- A language by its two members, and one that is a part of another.
use Rattle.model.specs.Kinds.{Grammar}
use Rattle.model.specs.Scopes.{Order, Language}
use Rattle.model.specs.Rules.{Part}

abbrev pub language_of : Grammar → Order → Language
language_of g order = record { grammar = g; visible = order }

-- on programs whose root is the first's own, grammar and visible order agree
abbrev pub PartOf : Grammar → Order → Grammar → Order → Type 0
PartOf g order whole wide = Part (language_of g order) (language_of whole wide)
