use Rattle.laws.proofs.Reaches.{reaches_lawful_lem, by_likeness}
use Rattle.scope.proofs.language.reach_laws.Goals as goal

pub returns : goal.returns
returns g c =
    record {
      reaches = reaches_lawful_lem g.L.Language.visible g.L.Language.lawful;
      likeness = by_likeness g.L.Language.visible;
    }
