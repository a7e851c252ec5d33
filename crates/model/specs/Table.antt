-- What a row of the code's table of kinds says, in the rules' words.
use Rattle.std.specs.Prelude.{List, map}
use Rattle.model.specs.declared.kinds.Kind.{Kind}
use Rattle.model.specs.declared.kinds.Children.{Children as CodeChildren}
use Rattle.model.specs.declared.kinds.Children.TheVariants.{Exactly, AsMany}
use Rattle.model.specs.declared.kinds.KindRow.{KindRow}
use Rattle.model.specs.Kinds.{Children, exactly, as_many, Row, row, kinds, kind_number}

pub record RowOf : Type 0 where
  pub kind : Kind
  pub row : Row

abbrev pub shown_children : CodeChildren → Children
shown_children (Exactly ss) = exactly ss.now
shown_children (AsMany s) = as_many s

-- its number is the one that the rules give its kind
abbrev pub shown : KindRow → RowOf
shown x =
    record {
      kind = x.kind;
      row = record {
        number = kind_number x.kind;
        word = x.word.now;
        sort = x.sort;
        role = x.role;
        most = x.most;
        children = shown_children x.children;
        under = x.under.now;
      };
    }

abbrev pub row_of : Kind → RowOf
row_of k = record { kind = k; row = row k }

-- all rows, in the order of their numbers
unfoldable pub table : List RowOf
table = map row_of kinds
