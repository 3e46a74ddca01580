-- A code is found again by its name.
use Rattle.std.proofs.Common.{◌≡◌, ℕ, Bool, true, false, ◌&&◌, nat_eq, List, [], ◌∷◌, Option, Some, refl, ap, sym, ◌∙◌}
use Rattle.std.specs.Prelude.{find}
use Rattle.stx_base.specs.declared.fault.RunCode.{RunCode}
use Rattle.stx_base.specs.declared.fault.RunCode.TheVariants as run
use Rattle.stx_base.specs.declared.fault.SheetCode.{SheetCode}
use Rattle.stx_base.specs.declared.fault.SheetCode.TheVariants as code
use Rattle.stx_base.specs.declared.fault.XmlKind.{XmlKind}
use Rattle.stx_base.specs.declared.fault.XmlKind.TheVariants as kind
use Rattle.fault_report.specs.Laws.{KindsByName, RunCodesByName, SheetCodesByName}
use Rattle.fault_report.specs.Line.{run_code_name, sheet_code_name, xml_kind_name}

abbrev same : List ℕ → List ℕ → Bool
same [] [] = true
same [] (y ∷ ys) = false
same (x ∷ xs) [] = false
same (x ∷ xs) (y ∷ ys) = nat_eq x y && same xs ys

the_one : {A : Type 0} (a b : A) → Some a ≡ Some b → a ≡ b
the_one a b e = cc

abbrev kinds : List XmlKind
kinds =
    kind.LexemeTooLong ∷ kind.BadUtf8 ∷ kind.BadChar ∷ kind.InternalSubset ∷ kind.BadMarkup ∷ kind.BadDeclaration ∷ kind.BadVersion ∷ kind.Encoding ∷ kind.BadComment ∷ kind.BadPi ∷ kind.CdataEnd ∷ kind.BadTag ∷ kind.BadReference ∷ kind.UnknownEntity ∷ kind.Misplaced ∷ kind.BadName ∷ kind.BadBinding ∷ kind.UndeclaredPrefix ∷ kind.DuplicateAttribute ∷ kind.Mismatch ∷ kind.TooDeep ∷ kind.TextTooLong ∷ kind.Truncated ∷ kind.InputTooLong ∷ []

abbrev kind_named : List ℕ → Option XmlKind
kind_named name = find (λ c. same (xml_kind_name c) name) kinds

kind_found : (c : XmlKind) → kind_named (xml_kind_name c) ≡ Some c
kind_found kind.LexemeTooLong = refl
kind_found kind.BadUtf8 = refl
kind_found kind.BadChar = refl
kind_found kind.InternalSubset = refl
kind_found kind.BadMarkup = refl
kind_found kind.BadDeclaration = refl
kind_found kind.BadVersion = refl
kind_found kind.Encoding = refl
kind_found kind.BadComment = refl
kind_found kind.BadPi = refl
kind_found kind.CdataEnd = refl
kind_found kind.BadTag = refl
kind_found kind.BadReference = refl
kind_found kind.UnknownEntity = refl
kind_found kind.Misplaced = refl
kind_found kind.BadName = refl
kind_found kind.BadBinding = refl
kind_found kind.UndeclaredPrefix = refl
kind_found kind.DuplicateAttribute = refl
kind_found kind.Mismatch = refl
kind_found kind.TooDeep = refl
kind_found kind.TextTooLong = refl
kind_found kind.Truncated = refl
kind_found kind.InputTooLong = refl

pub kinds_by_name : KindsByName
kinds_by_name a b e = the_one a b (sym (kind_found a) ∙ ap kind_named e ∙ kind_found b)

abbrev sheet_codes : List SheetCode
sheet_codes =
    code.SheetTooLarge ∷ code.BadXml ∷ code.NotStx ∷ code.UnknownElement ∷ code.Misplaced ∷ code.UnknownAttribute ∷ code.MissingAttribute ∷ code.Version ∷ code.BadValue ∷ code.Fraction ∷ code.BadPath ∷ code.DuplicateName ∷ code.IncludeLoop ∷ code.NoDocument ∷ code.NoGroup ∷ code.NoProcedure ∷ code.NoBuffer ∷ code.NoVariable ∷ []

abbrev sheet_code_named : List ℕ → Option SheetCode
sheet_code_named name = find (λ c. same (sheet_code_name c) name) sheet_codes

sheet_code_found : (c : SheetCode) → sheet_code_named (sheet_code_name c) ≡ Some c
sheet_code_found code.SheetTooLarge = refl
sheet_code_found code.BadXml = refl
sheet_code_found code.NotStx = refl
sheet_code_found code.UnknownElement = refl
sheet_code_found code.Misplaced = refl
sheet_code_found code.UnknownAttribute = refl
sheet_code_found code.MissingAttribute = refl
sheet_code_found code.Version = refl
sheet_code_found code.BadValue = refl
sheet_code_found code.Fraction = refl
sheet_code_found code.BadPath = refl
sheet_code_found code.DuplicateName = refl
sheet_code_found code.IncludeLoop = refl
sheet_code_found code.NoDocument = refl
sheet_code_found code.NoGroup = refl
sheet_code_found code.NoProcedure = refl
sheet_code_found code.NoBuffer = refl
sheet_code_found code.NoVariable = refl

pub sheet_codes_by_name : SheetCodesByName
sheet_codes_by_name a b e = the_one a b (sym (sheet_code_found a) ∙ ap sheet_code_named e ∙ sheet_code_found b)

abbrev run_codes : List RunCode
run_codes =
    run.Overflow ∷ run.ZeroDivisor ∷ run.Fraction ∷ run.NotWhole ∷ run.NotOne ∷ run.NotNode ∷ run.SequenceTooLong ∷ run.TextTooLong ∷ run.ChildrenTwice ∷ run.BufferBusy ∷ run.TooManySources ∷ run.NoDocument ∷ run.Instances ∷ run.BadName ∷ run.BadChar ∷ run.BadComment ∷ run.BadPi ∷ run.LateAttribute ∷ run.UnmatchedEnd ∷ run.WrongEnd ∷ run.UnclosedResult ∷ run.ResultDepth ∷ run.BufferFull ∷ []

abbrev run_code_named : List ℕ → Option RunCode
run_code_named name = find (λ c. same (run_code_name c) name) run_codes

run_code_found : (c : RunCode) → run_code_named (run_code_name c) ≡ Some c
run_code_found run.Overflow = refl
run_code_found run.ZeroDivisor = refl
run_code_found run.Fraction = refl
run_code_found run.NotWhole = refl
run_code_found run.NotOne = refl
run_code_found run.NotNode = refl
run_code_found run.SequenceTooLong = refl
run_code_found run.TextTooLong = refl
run_code_found run.ChildrenTwice = refl
run_code_found run.BufferBusy = refl
run_code_found run.TooManySources = refl
run_code_found run.NoDocument = refl
run_code_found run.Instances = refl
run_code_found run.BadName = refl
run_code_found run.BadChar = refl
run_code_found run.BadComment = refl
run_code_found run.BadPi = refl
run_code_found run.LateAttribute = refl
run_code_found run.UnmatchedEnd = refl
run_code_found run.WrongEnd = refl
run_code_found run.UnclosedResult = refl
run_code_found run.ResultDepth = refl
run_code_found run.BufferFull = refl

pub run_codes_by_name : RunCodesByName
run_codes_by_name a b e = the_one a b (sym (run_code_found a) ∙ ap run_code_named e ∙ run_code_found b)
