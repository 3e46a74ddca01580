-- How a sheet is read: its files in document order, up to the first fault.
use Rattle.std.specs.Prelude.{ℕ, List, Option, Some, None}
use Rattle.stx_base.specs.Course.{Course, Halt}
use Rattle.stx_base.specs.declared.fault.Place.{Place}
use Rattle.stx_base.specs.declared.fault.SheetCode.{SheetCode}
use Rattle.stx_base.specs.declared.fault.SheetCode.TheVariants as code
use Rattle.stx_base.specs.declared.name.Binding.{Binding}
use Rattle.stx_base.specs.declared.name.Name.{Name}
use Rattle.stx_base.specs.declared.part.Part.{Part}
use Rattle.stxpath_syntax.specs.declared.expr.Expr.{Expr}
use Rattle.sheet_model.specs.declared.instr.Instr.{Instr}
use Rattle.sheet_model.specs.declared.instr.When.{When}
use Rattle.sheet_model.specs.declared.instr.WithParam.{WithParam}
use Rattle.sheet_model.specs.declared.pass.Pass.{Pass}
use Rattle.sheet_model.specs.declared.sheet.Sheet.{Sheet}
use Rattle.sheet_model.specs.declared.sheet.Variable.{Variable}
use Rattle.xml_events.specs.Tree.{Forest, Why, Need, Bad}
use Rattle.sheet_loader.specs.Elements as element
use Rattle.sheet_loader.specs.References.{Reference}
use Rattle.sheet_loader.specs.Versions.{Version}

-- A file as it was read: its nodes, its version, and where the limit on sheets came, if it did.
pub record File : Type 0 where
  pub version : Version
  pub nodes : Forest
  pub limit : Option ℕ

-- how reading ends, where it doesn't give a sheet
pub data Ending : Type 0 where
  -- the first fault
  Refused : Place → SheetCode → Ending
  -- an include of the first of these files, which are being read, wants a file of which nothing is said yet
  Wants : (numbers : List ℕ) → (name : List ℕ) → Ending
  -- more of a file is wanted
  Unfinished : Ending

-- what was read so far: the sheet, and what it refers to, in document order
pub record Loading : Type 0 where
  pub sheet : Sheet
  pub references : List Reference

-- where an element stands, and what is in force there
pub record Context : Type 0 where
  -- the file's number, where the limit on sheets came in it, and the files that are being read, it and those that include it
  pub file : ℕ
  pub limit : Option ℕ
  pub reading : List (ℕ × List ℕ)
  pub version : Version
  -- the namespace declarations, the outermost first
  pub scope : List Binding
  -- what the list may hold, and the start tag of its element
  pub inside : element.Inside
  pub at : ℕ
  -- the group, and what it passes through
  pub group : ℕ
  pub pass : Pass
  -- the locals in scope
  pub locals : List Name

-- what a node of a list comes to; declarations come to nothing here, since they go to the sheet
pub data Item : Type 0 where
  Instruction : Instr → Item
  -- an if, before it is known whether an else stands behind it
  An_if : (test : Expr) → List Instr → Place → Item
  An_else : List Instr → Item
  A_local : Name → Instr → Item
  A_branch : When → Item
  An_otherwise : List Instr → Item
  A_param : Variable → Item
  A_value : WithParam → Item
  Text : List ℕ → Item
  A_part : Part → Item

-- what a list comes to
pub record Listed : Type 0 where
  pub items : List Item
  pub loading : Loading

-- the calls of a reading: the nodes of a list, with what those before them came to
pub data Job : Type 0 where
  Nodes : Context → (before : List Item) → Forest → Loading → Job

abbrev pub Does : Type 0 → Type 0
Does R = Course Job R (List ℕ) Ending

abbrev pub place : Context → (offset : ℕ) → Place
place here offset = record { file = here.file; offset = offset }

abbrev pub refused : {R : Type 0} → Context → (offset : ℕ) → SheetCode → Course Job R (List ℕ) Ending
refused here offset why = Halt (Refused (place here offset) why)

-- why a list goes no further: a fault of the file, the limit on sheets, or the end of what is known of the file
abbrev pub ends_at : {R : Type 0} → Context → (limit : Option ℕ) → Course Job R (List ℕ) Ending
ends_at here None = Halt Unfinished
ends_at here (Some most) = refused here most code.SheetTooLarge

abbrev pub cut : {R : Type 0} → Context → Why → Course Job R (List ℕ) Ending
cut here (Bad fault) = refused here fault.offset code.BadXml
cut here Need = ends_at here here.limit
