use Rattle.std.proofs.Common.{arith}
use Rattle.model.proofs.TableRows.{in_table, number_below, at_kind}
use Rattle.model.proofs.kinds.Kind.row.Goals as goal

pub bounds-all_kinds-place : goal.bounds-all_kinds-place
bounds-all_kinds-place c = omega (arith, in_table c.all_kinds.result.now c.all_kinds.ensures, number_below c.args.self c.place.result c.place.ensures)

pub returns : goal.returns
returns c = at_kind c.all_kinds.result.now c.args.self c.place.result _ c.all_kinds.ensures c.place.ensures
