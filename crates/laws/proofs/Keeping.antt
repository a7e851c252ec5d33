-- lower, flatten and given drafts keep the rules of transformations, and the standard world keeps its own.
use Rattle.std.proofs.Common.{◌≡◌, ℕ, Bool, true, false, cond, eqb, List, Some, None, Ok, refl, subst, arith}
use Rattle.model.specs.declared.nodes.Node.{Node}
use Rattle.model.specs.Names.{nodes}
use Rattle.model.specs.Fitting.{Of, Program}
use Rattle.model.specs.Forest.{Forest, grow}
use Rattle.model.specs.Scopes.{by_root}
use Rattle.model.specs.Classes.{Draft}
use Rattle.model.specs.Stages.{Transformation, Stage, under_repair, in_row, foreign}
use Rattle.model.specs.Lower.{lower}
use Rattle.model.specs.Flatten.{flatten}
use Rattle.model.specs.Plans.{Plan, spell_out}
use Rattle.model.specs.Rules.{Visible, drafted, KeepsStage, FitsInRow}
use Rattle.laws.specs.Stages.{Lawful, StageLaws, ForeignLawful, StandardKeeps}
use Rattle.laws.proofs.Orders.{orders_visible_lem, languages_parts_lem}
use Rattle.laws.proofs.Meanings.{never_itself, foreign_keeps}
use Rattle.laws.proofs.Planning.{Planner, planned_law}
use Rattle.laws.proofs.Lowering.{lowering, lower_planner}
use Rattle.laws.proofs.Flattening.{flattening, flatten_planner}
use Rattle.laws.proofs.LowerMade.{lower_made}
use Rattle.laws.proofs.FlattenMade.{flatten_made}

-- a transformation whose drafts are spelled from a plan, and are of its target
planned_lawful : (t : Transformation) (F : Forest Node → Plan) → Planner t F → Visible t.source.visible → ((p : List Node) (d : Draft) → Program t.source.grammar p → drafted t p ≡ Ok d → Of t.target.grammar (nodes d)) → Lawful t
planned_lawful t F pl vis made =
    record {
      keeps = record { made = made; law = λ p q u v a. planned_law t F pl vis p q a };
      refuses = never_itself t (λ s. spell_out s.program (F (grow s.program))) pl.drafts;
    }

pub stage_laws : StageLaws
stage_laws = (planned_lawful lower lowering lower_planner orders_visible_lem.card lower_made, planned_lawful flatten flattening flatten_planner orders_visible_lem.tree flatten_made)

pub foreign_lawful_lem : ForeignLawful
foreign_lawful_lem l d o = record { keeps = foreign_keeps l d o; refuses = never_itself (foreign l d) (λ s. d) (λ s. refl) }

abbrev KeepsHere : Stage → Type 0
KeepsHere s = KeepsStage by_root s

lower_keeps : KeepsHere (under_repair lower)
lower_keeps = (languages_parts_lem.card, languages_parts_lem.tree, stage_laws.0.keeps)

flatten_keeps : KeepsHere (under_repair flatten)
flatten_keeps = (languages_parts_lem.tree, languages_parts_lem.flat, stage_laws.1.keeps)

-- what holds of lower, flatten and both in a row holds of every standard stage
each_stage : (P : Stage → Type 0) → P (under_repair lower) → P (under_repair flatten) → P (in_row (under_repair lower) (under_repair flatten))
    → (a b c : Bool) (s : Stage) → cond a (Some (under_repair lower)) (cond b (Some (under_repair flatten)) (cond c (Some (in_row (under_repair lower) (under_repair flatten))) None)) ≡ Some s → P s
each_stage P l f r true b c s e = let w : under_repair lower ≡ s = cc in subst P w l
each_stage P l f r false true c s e = let w : under_repair flatten ≡ s = cc in subst P w f
each_stage P l f r false false true s e = let w : in_row (under_repair lower) (under_repair flatten) ≡ s = cc in subst P w r
each_stage P l f r false false false s e = let z : ◌≡◌ {A = ℕ} 0 1 = cc in absurd (omega arith)

pub standard_keeps : StandardKeeps
standard_keeps =
    record {
      keeps = record {
        visible = orders_visible_lem.by_root;
        stages = λ n s e. each_stage KeepsHere lower_keeps flatten_keeps (lower_keeps, flatten_keeps) (eqb n 1) (eqb n 2) (eqb n 3) s e;
      };
      rows = λ n s e. each_stage FitsInRow tt tt (tt, tt, refl) (eqb n 1) (eqb n 2) (eqb n 3) s e;
    }
