-- The attributes of a literal element, one after another.
use Rattle.std.proofs.Common.{◌≡◌, List, ◌∷◌, Option, Some, Result, Ok, Err, ap, sym, ◌∙◌}
use Rattle.stx_base.specs.declared.fault.SheetCode.{SheetCode}
use Rattle.stx_base.specs.declared.name.Attr.{Attr}
use Rattle.stx_base.specs.declared.name.Binding.{Binding}
use Rattle.stx_base.specs.declared.name.Name.{Name}
use Rattle.stxpath_syntax.specs.declared.dialect.Dialect.{Dialect}
use Rattle.sheet_model.specs.declared.instr.LiteralAttr.{LiteralAttr}
use Rattle.sheet_loader.specs.Meant.{Tells}
use Rattle.sheet_loader.specs.Read.{literal_attrs}
use Rattle.sheet_loader.specs.Reading.{File}
use Rattle.sheet_loader.specs.Steps.{AreRead, IsRead, templates_in}
use Rattle.sheet_loader.specs.Tags.{path_fault}
use Rattle.sheet_loader.specs.Values.{A_template, Reads, Value, read}
use Rattle.sheet_loader.specs.declared.refused.Refused.{Refused}
use Rattle.sheet_loader.specs.declared.refused.Refused.TheVariants as refused

module _ (reads : Reads) (dialect : Dialect) (scope : List Binding) (a : Attr) where
  pub read_refused : (r : Refused) → Tells (read A_template (reads.template dialect scope a.value)) (Err r) → IsRead reads dialect scope a (Err r)
  read_refused (refused.Code why) t = t
  read_refused refused.Memory t = tt

  module _ (rest : List Attr) where
    -- one that is read shows no fault
    pub fault_next : (made : LiteralAttr) → IsRead reads dialect scope a (Ok made)
        → path_fault (templates_in reads dialect scope (a ∷ rest)) ≡ path_fault (templates_in reads dialect scope rest)
    fault_next made e = ap (λ (r : Result Value SheetCode). path_fault (Some r ∷ templates_in reads dialect scope rest)) e.1

    pub attrs_next : (files : List (Option File)) (made : LiteralAttr) → IsRead reads dialect scope a (Ok made)
        → literal_attrs reads files (a ∷ rest) (templates_in reads dialect scope (a ∷ rest)) ≡ made ∷ literal_attrs reads files rest (templates_in reads dialect scope rest)
    attrs_next files made e =
        ap (λ (r : Result Value SheetCode). literal_attrs reads files (a ∷ rest) (Some r ∷ templates_in reads dialect scope rest)) e.1
        ∙ ap (λ (n : Name). record { name = n; value = made.value } ∷ literal_attrs reads files rest (templates_in reads dialect scope rest)) (sym e.0)

    -- one that isn't is the first fault
    pub refused_next : (attrs : List Attr) (r : Refused) → IsRead reads dialect scope a (Err r)
        → path_fault (templates_in reads dialect scope (a ∷ rest)) ≡ path_fault (templates_in reads dialect scope attrs)
        → AreRead reads dialect scope attrs (Err r)
    refused_next attrs (refused.Code why) e g = sym g ∙ ap (λ (x : Result Value SheetCode). path_fault (Some x ∷ templates_in reads dialect scope rest)) e
    refused_next attrs refused.Memory e g = tt
