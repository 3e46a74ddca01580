-- What a sheet's files come to: the sheet, or how its reading ends without one.
use Rattle.std.specs.Prelude.{ℕ, ◌+◌, false, List, [], ◌∷◌, Option, Some, None}
use Rattle.std.specs.Option.{option_map_or}
use Rattle.stx_base.specs.Course.{Ret, Halt, Say, Ask, Answer, value, run}
use Rattle.stx_base.specs.declared.fault.SheetCode.TheVariants as code
use Rattle.sheet_model.specs.declared.pass.Pass.TheVariants as pass
use Rattle.xml_events.specs.Tree.{Forest, End, Cut, Single, Nested}
use Rattle.sheet_loader.specs.Elements.{Document}
use Rattle.sheet_loader.specs.Read.{code_of_job}
use Rattle.sheet_loader.specs.Reading.{File, Ending, Refused, Wants, Loading, Context, Listed, Nodes, Does}
use Rattle.sheet_loader.specs.References.{Reference, code_of, first_lost}
use Rattle.sheet_loader.specs.Values.{Reads}

-- what a sheet is before anything of it is read, with the name of its file
abbrev pub nothing : (name : List ℕ) → Loading
nothing name = record {
  sheet = record { groups = []; templates = []; procedures = []; buffers = []; variables = []; strip = false; cdata = false; files = name ∷ [] };
  references = [];
}

abbrev pub at_start : (name : List ℕ) → File → Context
at_start name file = record {
  file = 0;
  limit = file.limit;
  reading = (0, name) ∷ [];
  version = file.version;
  scope = [];
  inside = Document false;
  at = 0;
  group = 0;
  pass = pass.None;
  locals = [];
}

-- a reference that finds nothing is looked for only where the files have no fault
abbrev pub whole : Listed → Option Reference → Does Listed
whole r None = Ret r
whole r (Some lost) = Halt (Refused lost.at (code_of lost.sought))

-- the nodes of a list, those within them too, and its end
abbrev pub size : Forest → ℕ
size (End mark offset) = 1
size (Cut why) = 1
size (Single mark leaf next) = 1 + size next
size (Nested mark e kids next) = 1 + size kids + size next

abbrev pub sizes : List (Option File) → ℕ
sizes [] = 0
sizes (f ∷ files) = option_map_or (λ file. size file.nodes) f 0 + sizes files

module _ (reads : Reads) where
  -- The sheet of this name, by its files in the order of opening: the first is its own, and None is one that is absent. The names that are
  -- opened are said; a file of which nothing is known is wanted.
  abbrev pub sheet_of : (name : List ℕ) → List (Option File) → Does Listed
  sheet_of name [] = Say name (Halt (Wants [] name))
  sheet_of name (None ∷ files) = Say name (Halt (Refused (record { file = 0; offset = 0 }) code.NoDocument))
  sheet_of name (Some file ∷ files) =
      Say name (Ask (Nodes (at_start name file) [] file.nodes (nothing name)) (λ r. whole r (first_lost r.loading.sheet r.loading.references)))

  -- the names that are opened, in order, and the sheet or how it ends; no call of the reading is nested deeper than there are nodes
  abbrev pub outcome : (name : List ℕ) → List (Option File) → Answer Listed (List ℕ) Ending
  outcome name files = value (run (code_of_job reads files) (sizes files + 1)) (sheet_of name files)
