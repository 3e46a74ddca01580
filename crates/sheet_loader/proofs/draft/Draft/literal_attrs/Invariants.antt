use Rattle.std.proofs.Common.{◌≡◌, List, ◌++◌, Option}
use Rattle.std.specs.Vec.Iter.{into_iter_items}
use Rattle.sheet_loader.specs.Read.{literal_attrs}
use Rattle.sheet_loader.specs.Reading.{File}
use Rattle.sheet_loader.specs.Steps.{templates_in}
use Rattle.sheet_loader.specs.Tags.{path_fault}
use Rattle.sheet_loader.specs.Values.{Reads}
use Rattle.sheet_loader.proofs.draft.Draft.literal_attrs.Given as goal

abbrev pub invariant-loop-attr : goal.invariant-loop-attr
invariant-loop-attr l = record {
  good : (reads : Reads) → path_fault (templates_in reads l.dialect l.self.file.scope (into_iter_items l.attr-iterator)) ≡ path_fault (templates_in reads l.dialect l.self.file.scope l.fn.attrs);
  made : (reads : Reads) (files : List (Option File)) → l.read ++ literal_attrs reads files (into_iter_items l.attr-iterator) (templates_in reads l.dialect l.self.file.scope (into_iter_items l.attr-iterator))
      ≡ literal_attrs reads files l.fn.attrs (templates_in reads l.dialect l.self.file.scope l.fn.attrs);
}
