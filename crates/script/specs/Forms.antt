-- The two forms of texts, as the code names them.
use Rattle.model.specs.Fields.{Form, plain, draft}
use Rattle.script.specs.declared.lines.Form.{Form as CodeForm}
use Rattle.script.specs.declared.lines.Form.TheVariants.{Script, Draft}

abbrev pub form_of : CodeForm → Form
form_of Script = plain
form_of Draft = draft
