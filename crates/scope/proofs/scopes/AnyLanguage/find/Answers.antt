use Rattle.std.proofs.Common.{rules, arith}
use Rattle.scope.proofs.Rows.{found_past, found_plain, found_itself, found_sought}
use Rattle.scope.proofs.scopes.AnyLanguage.find.Goals as goal

pub returns-in_err-get : goal.returns-in_err-get
returns-in_err-get g c = found_past _ g.S.Scopes.scopes g.S.Scopes.lawful c.args.program.now _ (omega (arith, c.in_err-get.ensures.lookup)) _ c.from_residual.ensures

pub returns-in-Plain : goal.returns-in-Plain
returns-in-Plain g c = found_plain _ g.S.Scopes.scopes g.S.Scopes.lawful c.args.program.now _ c.in_ok-get.field-0.now (search rules) c.row.result.now c.row.ensures c.in-Plain.is

pub returns-in-Declares : goal.returns-in-Declares
returns-in-Declares g c = found_itself _ g.S.Scopes.scopes g.S.Scopes.lawful c.args.program.now _ c.in_ok-get.field-0.now (search rules) c.row.result.now c.row.ensures c.in-Declares.is

pub returns-in-Refers : goal.returns-in-Refers
returns-in-Refers g c = found_sought _ g.S.Scopes.scopes g.S.Scopes.lawful c.args.program.now _ c.in_ok-get.field-0.now (search rules) c.row.result.now c.row.ensures c.in-Refers.is _ c.seek.ensures
