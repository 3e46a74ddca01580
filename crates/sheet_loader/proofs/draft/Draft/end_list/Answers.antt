-- Each list ends as its frame says.
use Rattle.std.proofs.Common.{◌≡◌, ℕ, false, List, [], ◌∷◌, Option, Result, ap, map, take, sym, ◌∙◌}
use Rattle.std.proofs.Math.Path.{subst}
use Rattle.stxpath_syntax.specs.declared.dialect.Dialect.TheVariants.{One}
use Rattle.stx_base.specs.declared.fault.Place.{Place}
use Rattle.sheet_model.specs.declared.instr.Instr.TheVariants as instr
use Rattle.xml_events.specs.Tree.{End, Future, Mark}
use Rattle.sheet_loader.proofs.ElementsEnd.{element_end_behind, element_end_files, element_end_sound}
use Rattle.sheet_loader.proofs.FileEnds.{file_end_answer, file_end_sound}
use Rattle.sheet_loader.proofs.LiteralEnds.{literal_end_answer, literal_end_sound}
use Rattle.sheet_loader.proofs.PartEnds.{part_end_answer, part_end_sound}
use Rattle.sheet_loader.specs.Drafts.{frames_of}
use Rattle.sheet_loader.specs.Events.{BehindNode, stage_of, stage_within}
use Rattle.sheet_loader.specs.Gathering.{values_in}
use Rattle.sheet_loader.specs.Keys.{own_of}
use Rattle.sheet_loader.specs.Making.{body}
use Rattle.sheet_loader.specs.Meant.{item_of, kind_of}
use Rattle.sheet_loader.specs.Named.{names_of}
use Rattle.sheet_loader.specs.Reading as reading
use Rattle.sheet_loader.specs.Reading.{File}
use Rattle.sheet_loader.specs.Remaining.{Reads_on, remaining}
use Rattle.sheet_loader.specs.Resuming.{SameAnswer}
use Rattle.sheet_loader.specs.Sound.{IsSoundWithin}
use Rattle.sheet_loader.specs.Steps.{AddsItem, EndsElement}
use Rattle.sheet_loader.specs.Values.{Reads}
use Rattle.sheet_loader.specs.declared.draft.Draft.{Draft}
use Rattle.sheet_loader.specs.declared.frame.Frame.{Frame}
use Rattle.sheet_loader.specs.declared.frame.Opened.{Opened}
use Rattle.sheet_loader.specs.declared.frame.Opened.TheVariants as opened
use Rattle.sheet_loader.specs.declared.refused.Stop.{Stop}
use Rattle.sheet_loader.specs.declared.register.Register.{Register}
use Rattle.sheet_loader.proofs.ListSteps.{element_ended}
use Rattle.sheet_loader.specs.Lists.{LeavesList, number_around}
use Rattle.std.proofs.lemmas.Result.{on_ok_weaker}
use Rattle.sheet_loader.proofs.draft.Draft.end_list.Goals as goal

-- what is so of a frame by what its list stands in
within_as : (f : Frame) (d : Draft) (o : Opened) → f.opened ≡ o → IsSoundWithin f d → IsSoundWithin (record f { opened = o }) d
within_as f d o e sound = subst (λ (x : Opened). IsSoundWithin (record f { opened = x }) d) e sound

answer_as : (f : Frame) (d new : Draft) (o : Opened) (reads : Reads) (files : List (Option File)) (mark : Mark) (offset : ℕ) (rest : Future) → f.opened ≡ o
    → SameAnswer reads files (remaining reads files (Reads_on (stage_within (record f { opened = o }) d)) (End mark offset ∷ rest)) (remaining reads files (Reads_on (stage_of new)) rest)
    → SameAnswer reads files (remaining reads files (Reads_on (stage_within f d)) (End mark offset ∷ rest)) (remaining reads files (Reads_on (stage_of new)) rest)
answer_as f d new o reads files mark offset rest e a =
    subst (λ (x : Opened). SameAnswer reads files (remaining reads files (Reads_on (stage_within (record f { opened = x }) d)) (End mark offset ∷ rest)) (remaining reads files (Reads_on (stage_of new)) rest)) (sym e) a

behind_as : (f : Frame) (d new : Draft) (o : Opened) (reads : Reads) (files : List (Option File)) (mark : Mark) (offset : ℕ) (rest : Future) → f.opened ≡ o → (result : Result (Unit {0}) Stop)
    → BehindNode reads files (remaining reads files (Reads_on (stage_within (record f { opened = o }) d)) (End mark offset ∷ rest)) new rest result
    → BehindNode reads files (remaining reads files (Reads_on (stage_within f d)) (End mark offset ∷ rest)) new rest result
behind_as f d new o reads files mark offset rest e result a =
    subst (λ (x : Opened). BehindNode reads files (remaining reads files (Reads_on (stage_within (record f { opened = x }) d)) (End mark offset ∷ rest)) new rest result) (sym e) a

-- a draft of which a list is left, but for what it comes to
abbrev begun : Frame → Draft → Register → Draft
begun f d r = record d { register = r; file = record d.file { scope = take f.around d.file.scope } }

none_around : (f : Frame) (d : Draft) → f.opened ≡ opened.Sheet → IsSoundWithin f d → ⊥
none_around f d e sound =
    let none = (within_as f d opened.Sheet e sound).frames.0 [] [] (record { dialect = One; is_known = false }) in
    let h : frames_of d ≡ [] = none.stands in cc

pub returns-in-Sheet : goal.returns-in-Sheet
returns-in-Sheet c = absurd (none_around c.args.frame c.args.self.now c.in-Sheet.is c.requires)

pub returns-clause-sound : goal.returns-clause-sound
returns-clause-sound c =
    let o = opened.Part c.in-Part.name c.in-Part.start in
    part_end_sound c.args.frame c.args.self.now c.end_part.new.self c.leave.new.self c.in-Part.name c.in-Part.start (within_as c.args.frame c.args.self.now o c.in-Part.is c.requires) c.leave.ensures c.in_ok-end_part-in-Part.ensures

pub returns-clause-behind : goal.returns-clause-behind
returns-clause-behind c = λ reads files mark offset f.
    let o = opened.Part c.in-Part.name c.in-Part.start in
    answer_as c.args.frame c.args.self.now c.end_part.new.self o reads files mark offset f c.in-Part.is
    (part_end_answer c.args.frame c.args.self.now c.end_part.new.self c.leave.new.self c.in-Part.name c.in-Part.start (within_as c.args.frame c.args.self.now o c.in-Part.is c.requires) c.leave.ensures c.in_ok-end_part-in-Part.ensures reads files mark offset f)

pub returns-in-Literal-clause-sound : goal.returns-in-Literal-clause-sound
returns-in-Literal-clause-sound c =
    let o = opened.Literal c.in-Literal.name c.in-Literal.attrs in
    literal_end_sound c.args.frame c.args.self.now c.end_literal.new.self c.leave.new.self c.in-Literal.name c.in-Literal.attrs (within_as c.args.frame c.args.self.now o c.in-Literal.is c.requires) c.leave.ensures
    (subst (λ (q : Place). AddsItem (reading.Instruction (instr.Literal c.in-Literal.name c.in-Literal.attrs (body (map item_of c.args.frame.items)) q)) (begun c.args.frame c.args.self.now c.leave.new.self) c.end_literal.new.self) c.place-at.ensures c.in_ok-end_literal-in-Literal.ensures)

pub returns-in-Literal-clause-behind : goal.returns-in-Literal-clause-behind
returns-in-Literal-clause-behind c = λ reads files mark offset f.
    let o = opened.Literal c.in-Literal.name c.in-Literal.attrs in
    answer_as c.args.frame c.args.self.now c.end_literal.new.self o reads files mark offset f c.in-Literal.is
    (literal_end_answer c.args.frame c.args.self.now c.end_literal.new.self c.leave.new.self c.in-Literal.name c.in-Literal.attrs (within_as c.args.frame c.args.self.now o c.in-Literal.is c.requires) c.leave.ensures
    (subst (λ (q : Place). AddsItem (reading.Instruction (instr.Literal c.in-Literal.name c.in-Literal.attrs (body (map item_of c.args.frame.items)) q)) (begun c.args.frame c.args.self.now c.leave.new.self) c.end_literal.new.self) c.place-at.ensures c.in_ok-end_literal-in-Literal.ensures) reads files mark offset f)

pub returns-in-File-clause-sound : goal.returns-in-File-clause-sound
returns-in-File-clause-sound c =
    let o = opened.File c.in-File.includer in
    file_end_sound c.args.frame c.args.self.now c.end_file.new.self c.leave.new.self c.in-File.includer (within_as c.args.frame c.args.self.now o c.in-File.is c.requires) c.leave.ensures c.end_file.ensures.others c.end_file.ensures.name

pub returns-in-File-clause-behind : goal.returns-in-File-clause-behind
returns-in-File-clause-behind c = λ reads files mark offset f.
    let o = opened.File c.in-File.includer in
    answer_as c.args.frame c.args.self.now c.end_file.new.self o reads files mark offset f c.in-File.is
    (file_end_answer c.args.frame c.args.self.now c.end_file.new.self c.leave.new.self c.in-File.includer (within_as c.args.frame c.args.self.now o c.in-File.is c.requires) c.leave.ensures c.end_file.ensures.others reads files mark offset f)

pub returns-in-Element-clause-sound : goal.returns-in-Element-clause-sound
returns-in-Element-clause-sound c =
    let o = opened.Element c.in-Element.kind c.in-Element.values c.in-Element.own in
    element_end_sound c.args.frame c.args.self.now c.end_element-ended.new.self c.leave_scope.new.self c.leave.new.self c.in-Element.kind c.in-Element.values c.in-Element.own
    (within_as c.args.frame c.args.self.now o c.in-Element.is c.requires) c.leave.ensures c.leave_scope.ensures c.end_element-ended.result
    (subst (λ (q : Place). EndsElement (kind_of c.in-Element.kind) q (values_in c.in-Element.values) (own_of c.in-Element.own) (map item_of c.args.frame.items) (record c.args.self.now { register = c.leave.new.self }) c.end_element-ended.new.self c.end_element-ended.result) c.place-at.ensures c.end_element-ended.ensures)

pub returns-in-Element-clause-behind : goal.returns-in-Element-clause-behind
returns-in-Element-clause-behind c = λ reads files mark offset f.
    let o = opened.Element c.in-Element.kind c.in-Element.values c.in-Element.own in
    behind_as c.args.frame c.args.self.now c.leave_scope.new.self o reads files mark offset f c.in-Element.is c.end_element-ended.result
    (element_end_behind c.args.frame c.args.self.now c.end_element-ended.new.self c.leave_scope.new.self c.leave.new.self c.in-Element.kind c.in-Element.values c.in-Element.own
    (within_as c.args.frame c.args.self.now o c.in-Element.is c.requires) c.leave.ensures c.leave_scope.ensures c.end_element-ended.result
    (subst (λ (q : Place). EndsElement (kind_of c.in-Element.kind) q (values_in c.in-Element.values) (own_of c.in-Element.own) (map item_of c.args.frame.items) (record c.args.self.now { register = c.leave.new.self }) c.end_element-ended.new.self c.end_element-ended.result) c.place-at.ensures c.end_element-ended.ensures)
    reads files mark offset f)

pub returns-in-Element-clause-files : goal.returns-in-Element-clause-files
returns-in-Element-clause-files c =
    let o = opened.Element c.in-Element.kind c.in-Element.values c.in-Element.own in
    element_end_files c.args.frame c.args.self.now c.end_element-ended.new.self c.leave_scope.new.self c.leave.new.self c.in-Element.kind c.in-Element.values c.in-Element.own
    (within_as c.args.frame c.args.self.now o c.in-Element.is c.requires) c.leave.ensures c.leave_scope.ensures c.end_element-ended.result
    (subst (λ (q : Place). EndsElement (kind_of c.in-Element.kind) q (values_in c.in-Element.values) (own_of c.in-Element.own) (map item_of c.args.frame.items) (record c.args.self.now { register = c.leave.new.self }) c.end_element-ended.new.self c.end_element-ended.result) c.place-at.ensures c.end_element-ended.ensures)

pub returns-in-File-clause-files : goal.returns-in-File-clause-files
returns-in-File-clause-files c = ap names_of c.end_file.ensures.others

pub returns-in-Literal-clause-files : goal.returns-in-Literal-clause-files
returns-in-Literal-clause-files c = ap names_of c.in_ok-end_literal-in-Literal.ensures.others

pub returns-clause-files : goal.returns-clause-files
returns-clause-files c = ap names_of c.in_ok-end_part-in-Part.ensures

-- what is so of the lists, by what the list that ends stands in
leaves_by : (f : Frame) (o : Opened) (d new : Draft) → f.opened ≡ o → new.top.opened ≡ d.top.opened → new.below ≡ d.below → new.file.number ≡ number_around o d.file.number → LeavesList f.opened d new
leaves_by f o d new e top below number = record { top = top; below = below; number = number ∙ ap (λ (x : Opened). number_around x d.file.number) (sym e) }

pub returns-in-File-clause-lists : goal.returns-in-File-clause-lists
returns-in-File-clause-lists c =
    let e = c.end_file.ensures.others in
    leaves_by c.args.frame (opened.File c.in-File.includer) c.args.self.now c.end_file.new.self c.in-File.is (ap (λ (x : Draft). x.top.opened) e) (ap (λ (x : Draft). x.below) e) (ap (λ (x : Draft). x.file.number) e)

pub returns-in-Literal-clause-lists : goal.returns-in-Literal-clause-lists
returns-in-Literal-clause-lists c =
    let e = c.in_ok-end_literal-in-Literal.ensures.others in
    leaves_by c.args.frame (opened.Literal c.in-Literal.name c.in-Literal.attrs) c.args.self.now c.end_literal.new.self c.in-Literal.is (ap (λ (x : Draft). x.top.opened) e) (ap (λ (x : Draft). x.below) e) (ap (λ (x : Draft). x.file.number) e)

pub returns-clause-lists : goal.returns-clause-lists
returns-clause-lists c =
    let e = c.in_ok-end_part-in-Part.ensures in
    leaves_by c.args.frame (opened.Part c.in-Part.name c.in-Part.start) c.args.self.now c.end_part.new.self c.in-Part.is (ap (λ (x : Draft). x.top.opened) e) (ap (λ (x : Draft). x.below) e) (ap (λ (x : Draft). x.file.number) e)

pub returns-in-Element-clause-lists : goal.returns-in-Element-clause-lists
returns-in-Element-clause-lists c =
    let d = c.args.self.now in
    let mid = c.end_element-ended.new.self in
    let e = c.leave_scope.ensures in
    on_ok_weaker c.end_element-ended.result (λ same.
    leaves_by c.args.frame (opened.Element c.in-Element.kind c.in-Element.values c.in-Element.own) d c.leave_scope.new.self c.in-Element.is
    (ap (λ (x : Draft). x.top.opened) e ∙ same.top) (ap (λ (x : Draft). x.below) e ∙ same.below) (ap (λ (x : Draft). x.file.number) e ∙ same.number))
    (element_ended (kind_of c.in-Element.kind) c.place-at.result (values_in c.in-Element.values) (own_of c.in-Element.own) (map item_of c.args.frame.items) (record d { register = c.leave.new.self }) mid c.end_element-ended.result c.end_element-ended.ensures)
