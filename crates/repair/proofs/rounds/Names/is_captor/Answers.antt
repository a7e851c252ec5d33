use Rattle.std.proofs.Common.{Bool, not, ◌&&◌, sym, ap, ◌∙◌}
use Rattle.std.proofs.Math.Bool.{and-false}
use Rattle.model.specs.Repair.{leads}
use Rattle.repair.specs.Rounds.{classes_of}
use Rattle.repair.proofs.Captors.{captor_so, catches_nobody}
use Rattle.repair.proofs.rounds.Names.is_captor.Goals as goal

pub returns-then-is_none : goal.returns-then-is_none
returns-then-is_none c =
    let cs = c.args.self.now.classes.now in
    let at = c.args.at in
    sym (ap (λ (b : Bool). leads cs at && b) (catches_nobody cs (classes_of cs c.args.self.now.reached.now) at (c.is_none.ensures ∙ ap not c.if-is_none.true)) ∙ and-false (leads cs at))

pub returns-then-leads : goal.returns-then-leads
returns-then-leads c =
    let cs = c.args.self.now.classes.now in
    captor_so cs (classes_of cs c.args.self.now.reached.now) c.args.at c.captive.result c.is_some.result c.is_some.ensures c.captive.ensures (sym c.if-leads.ensures)
