-- Number, place and layer of every refusal, case by case.
use Rattle.std.specs.Prelude.{ℕ}
use Rattle.model.specs.declared.faults.ReadFault.{ReadFault}
use Rattle.model.specs.declared.faults.ReadFault.TheVariants.{TooLong, WrongLine, Misplaced, AfterEnd, EndsEarly, TooManyNodes}
use Rattle.model.specs.declared.faults.TextFault.{TextFault}
use Rattle.model.specs.declared.faults.TextFault.TheVariants.{TooShort as TextTooShort, Read as TextRead}
use Rattle.model.specs.declared.faults.StageFault.{StageFault}
use Rattle.model.specs.declared.faults.StageFault.TheVariants.{WrongSource, DraftTooLarge}
use Rattle.model.specs.declared.faults.RepairFault.{RepairFault}
use Rattle.model.specs.declared.faults.RepairFault.TheVariants.{FromNoName, SpelledApart, OuterDeclared, Lost}
use Rattle.model.specs.declared.faults.MendFault.{MendFault}
use Rattle.model.specs.declared.faults.MendFault.TheVariants.{TooShort as MendTooShort, Repair as MendRepair}
use Rattle.model.specs.declared.faults.DraftFault.{DraftFault}
use Rattle.model.specs.declared.faults.DraftFault.TheVariants.{Stage as DraftStage, Repair as DraftRepair}
use Rattle.model.specs.declared.faults.SessionFault.{SessionFault}
use Rattle.model.specs.declared.faults.SessionFault.TheVariants.{Read, Stage, Repair, NoProgram, TooShort, NoSuch}
use Rattle.model.specs.declared.faults.Layer.{Layer}
use Rattle.model.specs.declared.faults.Layer.TheVariants.{Reading, Staging, Repairing, Session}

abbrev pub read_number : ReadFault → ℕ
read_number TooLong = 1
read_number (WrongLine line) = 2
read_number (Misplaced line) = 3
read_number (AfterEnd line) = 4
read_number (EndsEarly lines) = 4
read_number TooManyNodes = 5

abbrev pub read_place : ReadFault → ℕ
read_place TooLong = 0
read_place (WrongLine line) = line
read_place (Misplaced line) = line
read_place (AfterEnd line) = line
read_place (EndsEarly lines) = lines
read_place TooManyNodes = 1024

abbrev pub text_number : TextFault → ℕ
text_number (TextTooShort needed) = 13
text_number (TextRead f) = read_number f

abbrev pub text_place : TextFault → ℕ
text_place (TextTooShort needed) = needed
text_place (TextRead f) = read_place f

abbrev pub text_layer : TextFault → Layer
text_layer (TextTooShort needed) = Session
text_layer (TextRead f) = Reading

abbrev pub stage_number : StageFault → ℕ
stage_number WrongSource = 7
stage_number DraftTooLarge = 8

abbrev pub stage_place : StageFault → ℕ
stage_place WrongSource = 0
stage_place DraftTooLarge = 0

abbrev pub repair_number : RepairFault → ℕ
repair_number (FromNoName node) = 9
repair_number (SpelledApart node) = 10
repair_number (OuterDeclared node) = 11
repair_number (Lost node) = 12

abbrev pub repair_place : RepairFault → ℕ
repair_place (FromNoName node) = node
repair_place (SpelledApart node) = node
repair_place (OuterDeclared node) = node
repair_place (Lost node) = node

abbrev pub mend_number : MendFault → ℕ
mend_number MendTooShort = 13
mend_number (MendRepair f) = repair_number f

abbrev pub mend_place : MendFault → ℕ
mend_place MendTooShort = 0
mend_place (MendRepair f) = repair_place f

abbrev pub mend_layer : MendFault → Layer
mend_layer MendTooShort = Session
mend_layer (MendRepair f) = Repairing

abbrev pub session_number : SessionFault → ℕ
session_number (Read f) = read_number f
session_number (Stage f) = stage_number f
session_number (Repair f) = repair_number f
session_number NoProgram = 6
session_number (TooShort needed) = 13
session_number (NoSuch number) = 14

abbrev pub session_place : SessionFault → ℕ
session_place (Read f) = read_place f
session_place (Stage f) = stage_place f
session_place (Repair f) = repair_place f
session_place NoProgram = 0
session_place (TooShort needed) = needed
session_place (NoSuch number) = number

abbrev pub session_layer : SessionFault → Layer
session_layer (Read f) = Reading
session_layer (Stage f) = Staging
session_layer (Repair f) = Repairing
session_layer NoProgram = Session
session_layer (TooShort needed) = Session
session_layer (NoSuch number) = Session

-- the session's fault carries the lower one whole
abbrev pub from_draft : DraftFault → SessionFault
from_draft (DraftStage f) = Stage f
from_draft (DraftRepair f) = Repair f
