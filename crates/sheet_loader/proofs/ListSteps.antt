-- The open lists of a draft, by its frames.
use Rattle.std.proofs.Common.{◌≡◌, ℕ, Bool, true, false, List, [], ◌∷◌, ◌++◌, drop, length, reverse, Some, None, Result, Ok, Err, OnOk, refl, ap, sym, ◌∙◌, ◌<◌, arith}
use Rattle.std.proofs.Math.Path.{subst}
use Rattle.std.proofs.lemmas.List.{reverse-append}
use Rattle.stx_base.specs.declared.fault.Place.{Place}
use Rattle.stx_base.specs.declared.name.Name.{Name}
use Rattle.stx_base.specs.declared.part.Part.{Part}
use Rattle.xml_events.specs.declared.event.Event.{Event}
use Rattle.sheet_loader.specs.Drafts.{file_around, frames_of, level_in, levels_in, levels_of, parts_around, what_in}
use Rattle.sheet_loader.specs.Elements as element
use Rattle.sheet_loader.specs.Elements.{Kind}
use Rattle.sheet_loader.specs.Gathering.{values_in}
use Rattle.sheet_loader.specs.Levels.{An_element}
use Rattle.sheet_loader.specs.Lists.{ClosesList, Element, FilesAre, Included, IsInElement, IsOfElement, KeepsLists, Of, OpensElementList, OpensFileList, OpensList, Own, SameLists, lists_in, number_around, of_what}
use Rattle.stx_base.specs.declared.fault.SheetCode.{SheetCode}
use Rattle.sheet_loader.specs.Loaders.{Standing, is_over, stopped_at, wanted_in}
use Rattle.sheet_loader.specs.Judging.{is_declared_here}
use Rattle.sheet_loader.specs.Keys.{Owned}
use Rattle.sheet_loader.specs.Making.{Values}
use Rattle.sheet_loader.specs.Meant.{inside_of, kind_of}
use Rattle.sheet_loader.specs.Named.{Includes, names_of}
use Rattle.sheet_loader.specs.Progress.{progress_in}
use Rattle.sheet_loader.specs.Reading.{Item}
use Rattle.sheet_loader.specs.Remaining.{Ended, Progress, Reads_on, Refused_at, Spent, Wants_file}
use Rattle.sheet_loader.specs.Sound.{IsInclude}
use Rattle.sheet_loader.specs.Steps.{AddsBy, AddsItem, AddsItems, AddsToList, AddsToSheet, Brings, Declares, EndsElement}
use Rattle.sheet_loader.specs.declared.draft.Draft.{Draft}
use Rattle.sheet_loader.specs.declared.frame.Frame.{Frame}
use Rattle.sheet_loader.specs.declared.frame.OpenFile.{OpenFile}
use Rattle.sheet_loader.specs.declared.frame.Opened.{Opened}
use Rattle.sheet_loader.specs.declared.frame.Opened.TheVariants as opened
use Rattle.sheet_loader.specs.declared.loader.Progress as loader
use Rattle.sheet_loader.specs.declared.loader.Progress.TheVariants as progress
use Rattle.sheet_loader.specs.declared.refused.Stop.{Stop}

-- where a loader stands, by where its draft does
abbrev stands : loader.Progress → Draft → Standing
stands p d = record { names = names_of d; progress = progress_in p d }

abbrev of_opened : Opened → (number : ℕ) → Of
of_opened opened.Sheet number = Own
of_opened (opened.File includer) number = Included number
of_opened other number = Element

abbrev of_frames : List Frame → (number : ℕ) → List Of
of_frames [] number = []
of_frames (f ∷ frames) number = of_opened f.opened number ∷ of_frames frames (number_around f.opened number)

same_list : (o : Opened) (until : ℕ) (file : OpenFile) (parts : List Part) → of_what (what_in o until file parts) ≡ of_opened o file.number
same_list opened.Sheet until file parts = refl
same_list (opened.File includer) until file parts = refl
same_list (opened.Element kind v own) until file parts = refl
same_list (opened.Literal name attrs) until file parts = refl
same_list (opened.Part name start) until file parts = refl

same_number : (o : Opened) (around : ℕ) (file : OpenFile) → (file_around o around file).number ≡ number_around o file.number
same_number opened.Sheet around file = refl
same_number (opened.File includer) around file = refl
same_number (opened.Element kind v own) around file = refl
same_number (opened.Literal name attrs) around file = refl
same_number (opened.Part name start) around file = refl

by_frames : (frames : List Frame) (file : OpenFile) (parts : List Part) → lists_in (levels_in frames file parts) ≡ of_frames frames file.number
by_frames [] file parts = refl
by_frames (f ∷ frames) file parts =
    ap (λ (o : Of). o ∷ lists_in (levels_in frames (file_around f.opened f.around file) (parts_around f.opened f.parts parts))) (same_list f.opened f.parts file parts)
    ∙ ap (λ (l : List Of). of_opened f.opened file.number ∷ l)
    (by_frames frames (file_around f.opened f.around file) (parts_around f.opened f.parts parts) ∙ ap (λ (n : ℕ). of_frames frames n) (same_number f.opened f.around file))

element_of : (o : Opened) (number : ℕ) → IsOfElement o → of_opened o number ≡ Element
element_of opened.Sheet number e = absurd e
element_of (opened.File includer) number e = absurd e
element_of (opened.Element kind v own) number e = refl
element_of (opened.Literal name attrs) number e = refl
element_of (opened.Part name start) number e = refl

around_element : (o : Opened) (number : ℕ) → IsOfElement o → number_around o number ≡ number
around_element opened.Sheet number e = absurd e
around_element (opened.File includer) number e = absurd e
around_element (opened.Element kind v own) number e = refl
around_element (opened.Literal name attrs) number e = refl
around_element (opened.Part name start) number e = refl

-- the innermost frame of those around
last_first : (frames rest : List Frame) (f : Frame) → frames ≡ rest ++ f ∷ [] → reverse frames ≡ f ∷ reverse rest
last_first frames rest f e = ap reverse e ∙ reverse-append rest (f ∷ [])

module _ (old new : Draft) where
  -- an element's list is open
  pub element_opened : OpensElementList old new → lists_in (levels_of new) ≡ Element ∷ lists_in (levels_of old)
  element_opened opens =
      let n = new.file.number in
      let o = new.top.opened in
      by_frames (frames_of new) new.file new.parts
      ∙ ap (λ (x : Of). x ∷ of_frames (reverse new.below.items) (number_around o n)) (element_of o n opens.element)
      ∙ ap (λ (l : List Frame). Element ∷ of_frames l (number_around o n)) (last_first new.below.items old.below.items old.top opens.around)
      ∙ ap (λ (m : ℕ). Element ∷ of_frames (frames_of old) m) (around_element o n opens.element ∙ opens.number)
      ∙ ap (λ (l : List Of). Element ∷ l) (sym (by_frames (frames_of old) old.file old.parts))

  -- so is a file's
  pub file_opened : OpensFileList old new → lists_in (levels_of new) ≡ Included (length (names_of old)) ∷ lists_in (levels_of old)
  file_opened opens =
      let n = new.file.number in
      by_frames (frames_of new) new.file new.parts
      ∙ ap (λ (o : Opened). of_opened o n ∷ of_frames (reverse new.below.items) (number_around o n)) opens.file
      ∙ ap (λ (l : List Frame). Included n ∷ of_frames l old.file.number) (last_first new.below.items old.below.items old.top opens.around)
      ∙ ap (λ (m : ℕ). Included m ∷ of_frames (frames_of old) old.file.number) opens.number
      ∙ ap (λ (l : List Of). Included (length (names_of old)) ∷ l) (sym (by_frames (frames_of old) old.file old.parts))

  -- the innermost list is closed
  pub list_closed : ClosesList old new → lists_in (levels_of new) ≡ drop 1 (lists_in (levels_of old))
  list_closed closes =
      let m = number_around old.top.opened old.file.number in
      by_frames (frames_of new) new.file new.parts
      ∙ ap (λ (n : ℕ). of_frames (frames_of new) n) closes.number
      ∙ ap (λ (o : Opened). of_opened o m ∷ of_frames (reverse new.below.items) (number_around o m)) closes.top
      ∙ ap (λ (l : List Frame). of_frames l m) (sym (last_first old.below.items new.below.items closes.around closes.below))
      ∙ ap (λ (l : List Of). drop 1 l) (sym (by_frames (frames_of old) old.file old.parts))

  -- none is
  pub lists_kept : SameLists old new → lists_in (levels_of new) ≡ lists_in (levels_of old)
  lists_kept same =
      by_frames (frames_of new) new.file new.parts
      ∙ ap (λ (n : ℕ). of_frames (frames_of new) n) same.number
      ∙ ap (λ (o : Opened). of_opened o old.file.number ∷ of_frames (reverse new.below.items) (number_around o old.file.number)) same.top
      ∙ ap (λ (l : List Frame). of_opened old.top.opened old.file.number ∷ of_frames (reverse l) (number_around old.top.opened old.file.number)) (ap (λ b. b.items) same.below)
      ∙ sym (by_frames (frames_of old) old.file old.parts)

-- the last one is
pub last_closed : (d : Draft) → d.below.items ≡ [] → drop 1 (lists_in (levels_of d)) ≡ []
last_closed d none =
    ap (λ (l : List Of). drop 1 l) (by_frames (frames_of d) d.file d.parts)
    ∙ ap (λ (l : List Frame). of_frames (reverse l) (number_around d.top.opened d.file.number)) none

in_include : (o : Opened) (until : ℕ) (file : OpenFile) (parts : List Part) → IsInclude o → (kind : Kind) × (v : Values) × (what_in o until file parts ≡ An_element kind v)
in_include opened.Sheet until file parts e = absurd e
in_include (opened.File includer) until file parts e = absurd e
in_include (opened.Element kind v own) until file parts e = (kind_of kind, values_in v, refl)
in_include (opened.Literal name attrs) until file parts e = absurd e
in_include (opened.Part name start) until file parts e = absurd e

-- where a file is wanted the list of the include is open
pub include_open : (href : List ℕ) (at : Place) (d : Draft) → Includes href at d → IsInElement (levels_of d)
include_open href at d includes = in_include d.top.opened d.top.parts d.file d.parts includes.include

-- the same lists where events count for nothing
pub lists_over : (p : loader.Progress) (d : Draft) (e : Event) → wanted_in (progress_in p d) ≡ None → (p ≡ progress.Reads → ⊥) → KeepsLists e (progress_in p d) (progress_in p d)
lists_over progress.Reads d e none h = absurd (h refl)
lists_over (progress.Wants name at) d e none h = cc
lists_over progress.Ended d e none h = tt
lists_over (progress.Refused why at) d e none h = tt
lists_over progress.Spent d e none h = tt

some_list : (d : Draft) → 0 < length (levels_of d)
some_list d = omega arith

-- a loader's files are those that were opened
pub files_are : (p : loader.Progress) (d : Draft) → FilesAre (names_of d) (progress_in p d)
files_are progress.Reads d = (refl, some_list d)
files_are (progress.Wants name at) d = (refl, some_list d)
files_are progress.Ended d = tt
files_are (progress.Refused why at) d = tt
files_are progress.Spent d = tt

-- a file's list is open where a file was wanted
pub opens_list : (s : Standing) (old new : Draft) (name : List ℕ) (at : Place) → stands (progress.Wants name at) old ≡ s → OpensFileList old new → OpensList s (stands progress.Reads new)
opens_list s old new name at is opens =
    subst (λ (x : Standing). OpensList x (stands progress.Reads new)) is (λ href wanted. (tt, file_opened old new opens, files_are progress.Reads new))

-- and nothing where none was
pub opens_no_list : (s : Standing) (p : loader.Progress) (d : Draft) → stands p d ≡ s → ((name : List ℕ) (at : Place) → p ≡ progress.Wants name at → ⊥) → (new : Standing) → OpensList s new
opens_no_list s p d is none new = subst (λ (x : Standing). OpensList x new) is (by_progress p none) where
  by_progress : (q : loader.Progress) → ((name : List ℕ) (at : Place) → q ≡ progress.Wants name at → ⊥) → OpensList (stands q d) new
  by_progress progress.Reads h = λ href wanted. cc
  by_progress (progress.Wants name at) h = absurd (h name at refl)
  by_progress progress.Ended h = λ href wanted. cc
  by_progress (progress.Refused why at) h = λ href wanted. cc
  by_progress progress.Spent h = λ href wanted. cc

-- what has the same lists as another one that was begun so has them as that one
pub opens_from : (d mid new : Draft) → mid.below ≡ d.below → mid.top ≡ d.top → mid.file.number ≡ d.file.number → OpensElementList mid new → OpensElementList d new
opens_from d mid new below top number opens = record {
  element = opens.element;
  around = opens.around ∙ ap (λ b. b.items ++ mid.top ∷ []) below ∙ ap (λ (t : Frame). d.below.items ++ t ∷ []) top;
  number = opens.number ∙ number;
}

-- an item changes no list
pub item_added : (x : Item) (old new : Draft) → AddsItem x old new → SameLists old new
item_added x old new adds = record {
  top = ap (λ (d : Draft). d.top.opened) adds.others;
  below = ap (λ (d : Draft). d.below) adds.others;
  number = ap (λ (d : Draft). d.file.number) adds.others;
}

items_added : (items : List Item) (old new : Draft) → AddsItems items old new → SameLists old new
items_added [] old new e = record { top = ap (λ (d : Draft). d.top.opened) e; below = ap (λ (d : Draft). d.below) e; number = ap (λ (d : Draft). d.file.number) e }
items_added (x ∷ items) old new adds = item_added x old new adds

same_then : (a b c : Draft) → SameLists a b → SameLists b c → SameLists a c
same_then a b c x y = record { top = y.top ∙ x.top; below = y.below ∙ x.below; number = y.number ∙ x.number }

brought : (kind : Kind) (n : Name) (old new : Draft) → Brings kind n old new → SameLists old new
brought kind n old new brings = record {
  top = ap (λ (d : Draft). d.top.opened) brings.others;
  below = ap (λ (d : Draft). d.below) brings.others;
  number = ap (λ (d : Draft). d.file.number) brings.others;
}

-- nor does a declaration
declared : (kind : Kind) (group : ℕ) (at : Place) (v : Values) (items : List Item) (old new : Draft) → Declares kind group at v items old new → SameLists old new
declared element.Template group at v items old new e = record { top = ap (λ (d : Draft). d.top.opened) e; below = ap (λ (d : Draft). d.below) e; number = ap (λ (d : Draft). d.file.number) e }
declared element.Procedure group at v items old new e = record { top = ap (λ (d : Draft). d.top.opened) e; below = ap (λ (d : Draft). d.below) e; number = ap (λ (d : Draft). d.file.number) e }
declared element.Buffer group at v items old new e = record { top = ap (λ (d : Draft). d.top.opened) e; below = ap (λ (d : Draft). d.below) e; number = ap (λ (d : Draft). d.file.number) e }
declared element.Variable group at v items old new e = record { top = ap (λ (d : Draft). d.top.opened) e; below = ap (λ (d : Draft). d.below) e; number = ap (λ (d : Draft). d.file.number) e }
declared element.Param group at v items old new e = record { top = ap (λ (d : Draft). d.top.opened) e; below = ap (λ (d : Draft). d.below) e; number = ap (λ (d : Draft). d.file.number) e }
declared other group at v items old new e = record { top = ap (λ (d : Draft). d.top.opened) e; below = ap (λ (d : Draft). d.below) e; number = ap (λ (d : Draft). d.file.number) e }

to_sheet : (kind : Kind) (group : ℕ) (at : Place) (v : Values) (own : Owned) (items : List Item) (old new : Draft) → AddsToSheet kind group at v own items old new → SameLists old new
to_sheet kind group at v own items old new adds =
    same_then old adds.made new (declared kind group at v items old adds.made adds.adds)
    (record { top = ap (λ (d : Draft). d.top.opened) adds.others; below = ap (λ (d : Draft). d.below) adds.others; number = ap (λ (d : Draft). d.file.number) adds.others })

added_by : (b : Bool) (kind : Kind) (group : ℕ) (at : Place) (v : Values) (own : Owned) (items : List Item) (old new : Draft) → AddsBy b kind group at v own items old new → SameLists old new
added_by true kind group at v own items old new adds = to_sheet kind group at v own items old new adds
added_by false kind group at v own items old new adds = same_then old adds.made new (items_added _ old adds.made adds.adds) (brought kind own.name adds.made new adds.brings)

-- an element of the language that ends changes no list around it
pub element_ended : (kind : Kind) (at : Place) (v : Values) (own : Owned) (items : List Item) (old new : Draft) (result : Result (Unit {0}) Stop) → EndsElement kind at v own items old new result → OnOk result (SameLists old new)
element_ended kind at v own items old new (Ok done) ends = added_by (is_declared_here (inside_of old.top.inside)) kind old.top.group at v own items old new ends.1
element_ended kind at v own items old new (Err why) ends = tt

-- a loader that reads on is over where it is stopped
pub over_there : (at : Place) (why : SheetCode) (p : Progress) → wanted_in p ≡ None → is_over (stopped_at at why p) ≡ true
over_there at why (Reads_on s) none = refl
over_there at why (Wants_file href s) none = cc
over_there at why (Ended items l) none = refl
over_there at why (Refused_at place code) none = refl
over_there at why Spent none = refl
