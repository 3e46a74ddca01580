-- A file that is included is at its end.
use Rattle.std.proofs.Common.{◌≡◌, ℕ, true, false, List, [], ◌∷◌, ◌++◌, map, reverse, take, drop, Option, is_some, refl, ap, sym, ◌∙◌}
use Rattle.std.proofs.Math.Path.{subst}
use Rattle.std.proofs.Math.Seq.{drop-nil, take-nil}
use Rattle.std.specs.Option.{option_map}
use Rattle.stx_base.specs.declared.part.Part.{Part}
use Rattle.stxpath_syntax.specs.declared.dialect.Dialect.TheVariants.{One}
use Rattle.xml_events.specs.Tree.{End, Future, Mark}
use Rattle.sheet_loader.proofs.Ends.{end_comes}
use Rattle.sheet_loader.proofs.Leaving.{declares_left, frames_left, known_anywhere, left, loading_left}
use Rattle.sheet_loader.proofs.LiteralStarts.{version_is}
use Rattle.sheet_loader.proofs.Numbers.{kept_left}
use Rattle.sheet_loader.proofs.Resuming.{answer_then, equal_answer}
use Rattle.sheet_loader.specs.Drafts.{file_around, frames_of, items_in, level_in, levels_in, loading_of, parts_around, version_in, what_in}
use Rattle.sheet_loader.specs.Elements.{Include}
use Rattle.sheet_loader.specs.Events.{stage_of, stage_within}
use Rattle.sheet_loader.specs.Known.{known}
use Rattle.sheet_loader.specs.Levels.{An_element, Level, What, as_file, entered, name_at, place_in, version_around}
use Rattle.sheet_loader.specs.Making.{Values}
use Rattle.sheet_loader.specs.Meant.{item_of, version_of}
use Rattle.sheet_loader.specs.Reading as reading
use Rattle.sheet_loader.specs.Reading.{File, Loading}
use Rattle.sheet_loader.specs.Remaining.{Reads_on, goes_on, remaining, version_by}
use Rattle.sheet_loader.specs.Resuming.{SameAnswer, continue}
use Rattle.sheet_loader.specs.Sound.{IsInclude, IsSound, IsSoundWithin}
use Rattle.sheet_loader.specs.Steps.{LeavesName}
use Rattle.sheet_loader.specs.Values.{Reads}
use Rattle.sheet_loader.specs.Versions.{Version}
use Rattle.sheet_loader.specs.declared.draft.Draft.{Draft}
use Rattle.sheet_loader.specs.declared.frame.Frame.{Frame}
use Rattle.sheet_loader.specs.declared.frame.OpenFile.{OpenFile}
use Rattle.sheet_loader.specs.declared.frame.Opened.{Opened}
use Rattle.sheet_loader.specs.declared.frame.Opened.TheVariants as opened
use Rattle.sheet_loader.specs.declared.register.Register.{Register}
use Rattle.sheet_loader.specs.Gathering.{values_in}

-- an include's list stands in an include
pub include_what : (o : Opened) → IsInclude o → (v : Values) × ((until : ℕ) (file : OpenFile) (parts : List Part) → what_in o until file parts ≡ An_element Include v)
include_what opened.Sheet e = absurd e
include_what (opened.File includer) e = absurd e
include_what (opened.Element kind v own) e = (values_in v, λ until file parts. ap (λ k. An_element k (values_in v)) e)
include_what (opened.Literal name attrs) e = absurd e
include_what (opened.Part name start) e = absurd e

-- behind its file an include goes on as an element in which nothing stands
goes_behind_file : (reads : Reads) (files : List (Option File)) (names : List (List ℕ)) (version : Version) (x : Level) (levels : List Level) (v : Values) (items : List reading.Item) (l : Loading) (f : Future)
    → x.what ≡ An_element Include v → x.before ≡ []
    → continue reads files (as_file (place_in names files version (x ∷ levels)).opens) (record { items = items; loading = l }) f
    ≡ goes_on reads files (place_in names files version (x ∷ levels)) l f
goes_behind_file reads files names version x levels v items l f what none =
    subst (λ (w : What). continue reads files (as_file (entered names files version w x (place_in names files (version_around version w) levels)).opens) (record { items = items; loading = l }) f ≡ goes_on reads files (entered names files version w x (place_in names files (version_around version w) levels)) l f)
    (sym what)
    (ap (λ b. goes_on reads files (entered names files version (An_element Include v) (record x { before = b }) (place_in names files version levels)) l f) (sym none))

module _ (f0 : Frame) (d new : Draft) (r : Register) (includer : OpenFile) where
  -- the list within, which is that of a file
  abbrev pub file_frame : Frame
  file_frame = record f0 { opened = opened.File includer }

  abbrev v0 : Version
  v0 = record { dialect = One; is_known = false }

  module _ (sound : IsSoundWithin file_frame d) (leaves : known r ≡ record (known d.register) { locals = take f0.locals (known d.register).locals })
      (is : new ≡ record d { register = r; file = includer; reading = new.reading }) where
    no_parts : d.parts ≡ []
    no_parts = (sound.frames.0 [] [] v0).no_parts refl

    same_parts : take f0.parts d.parts ≡ d.parts
    same_parts = ap (take f0.parts) no_parts ∙ take-nil f0.parts ∙ sym no_parts

    is_known : is_some includer.version ≡ true
    is_known = (sound.frames.0 [] [] v0).stands.0

    is_left : new ≡ record (left file_frame d r) { reading = new.reading }
    is_left = is ∙ ap (λ l. record d { register = r; file = includer; reading = new.reading; parts = l }) (sym same_parts)

    pub file_end_sound : LeavesName d new → IsSound new
    file_end_sound named = subst IsSound (sym is_left) after where
      after : IsSound (record (left file_frame d r) { reading = new.reading })
      after = record {
        frames = frames_left file_frame d r sound leaves;
        version = known_anywhere d.top.opened includer.version is_known;
        declares = declares_left file_frame d r sound leaves;
        files = record {
          known = sound.files.known.1;
          kept = kept_left (name_at (loading_of d).sheet.files) d.file.number (frames_of d) includer d.reading.keys new.reading.keys d.own sound.files.kept named;
        };
      }

    pub file_end_answer : (reads : Reads) (files : List (Option File)) (mark : Mark) (offset : ℕ) (f : Future)
        → SameAnswer reads files (remaining reads files (Reads_on (stage_within file_frame d)) (End mark offset ∷ f)) (remaining reads files (Reads_on (stage_of new)) f)
    file_end_answer reads files mark offset f =
        let names = (loading_of d).sheet.files in
        let stands = (sound.frames.0 [] [] v0).stands in
        let include = include_what d.top.opened stands.1 in
        let parts = take f0.parts d.parts in
        let x : Level = level_in d.top includer parts in
        let rest = levels_in (reverse d.below.items) (file_around d.top.opened d.top.around includer) (parts_around d.top.opened d.top.parts parts) in
        let empty : x.before ≡ [] = ap (λ i. map item_of i ++ map reading.A_part (drop d.top.parts parts)) stands.2 ∙ ap (λ q. map reading.A_part (drop d.top.parts q)) (same_parts ∙ no_parts) ∙ ap (map reading.A_part) (drop-nil d.top.parts) in
        answer_then reads files (end_comes reads files (stage_within file_frame d) mark offset f)
        (equal_answer reads files
        (goes_behind_file reads files names (version_in includer) x rest include.0 (items_in f0 d.parts) (loading_of d) f (include.1 d.top.parts includer parts) empty
        ∙ ap (λ v. goes_on reads files (place_in names files v (x ∷ rest)) (loading_of d) f) (sym (version_is includer f is_known))
        ∙ ap (λ l. goes_on reads files (place_in names files (version_by (option_map version_of includer.version) f) (x ∷ rest)) l f) (sym (loading_left file_frame d r sound leaves))
        ∙ ap (λ n. remaining reads files (Reads_on (stage_of n)) f) (sym is_left)))
