-- What a loader does behind each event, and at the end.
use Rattle.std.proofs.Common.{◌≡◌, ℕ, Bool, true, false, List, [], ◌∷◌, ◌++◌, length, map, reverse, slice_get, Option, Some, None, Result, Ok, Err, IfOk, OnOk, refl, ap, sym, ◌∙◌}
use Rattle.std.proofs.Math.Path.{subst}
use Rattle.std.specs.Option.{option_map, option_map_or}
use Rattle.stx_base.specs.Course.{Halt, Ret, Say, and_then, run, value}
use Rattle.stx_base.specs.declared.fault.Place.{Place}
use Rattle.stx_base.specs.declared.fault.SheetCode.{SheetCode}
use Rattle.stx_base.specs.declared.fault.SheetCode.TheVariants as code
use Rattle.stx_base.specs.declared.fault.SheetFault.{SheetFault}
use Rattle.stx_base.specs.declared.fault.XmlFault.{XmlFault}
use Rattle.stx_base.specs.declared.name.Attr.{Attr}
use Rattle.stx_base.specs.declared.name.Binding.{Binding}
use Rattle.stx_base.specs.declared.name.Name.{Name}
use Rattle.stx_base.specs.declared.node.First.{First}
use Rattle.xml_events.specs.Document.{inner, outer}
use Rattle.xml_events.specs.Tree.{Bad, CData, Chars, Comment, Cut, End, Future, Mark, Need, Pi, Single, Told}
use Rattle.xml_events.specs.declared.event.Event.{Event}
use Rattle.xml_events.specs.declared.event.Event.TheVariants as event
use Rattle.sheet_loader.proofs.FileEnds.{include_what}
use Rattle.sheet_loader.proofs.ListSteps.{element_opened, include_open, last_closed, list_closed, lists_kept}
use Rattle.sheet_loader.proofs.Places.{version_leaf}
use Rattle.sheet_loader.proofs.Resuming.{answer_then, cuts_list, equal_answer, passes_over}
use Rattle.sheet_loader.specs.Drafts.{file_around, level_in, levels_in, loading_of, parts_around}
use Rattle.sheet_loader.specs.Elements.{Include}
use Rattle.sheet_loader.specs.Events.{Behind, BehindEnd, BehindNode, begins, progress_at_end, stage_of}
use Rattle.sheet_loader.specs.Known as known
use Rattle.sheet_loader.specs.Levels.{An_element, Level, Place_in, What, entered, name_at, place_in, tag_of, version_around}
use Rattle.sheet_loader.specs.Lists.{EndsLastOr, OpensElementList, SameLists}
use Rattle.sheet_loader.specs.Load.{nothing, sheet_of, whole}
use Rattle.sheet_loader.specs.Loaders.{EndsAtLimit, EndsBad, EndsInFault, GivesSheet, MissesIt, OpensIt, OpensName, Standing, TakesEvent, is_over, is_refused, stopped_at, wanted_in}
use Rattle.sheet_loader.specs.Making.{Values, nameless}
use Rattle.sheet_loader.specs.Meant.{item_of}
use Rattle.sheet_loader.specs.Named.{Includes, SameFiles, WantsFile, names_of}
use Rattle.sheet_loader.specs.Progress.{IsSoundBy, Takes, TakesOr, behind_end, behind_node, behind_tag, progress_in, stop_of}
use Rattle.sheet_loader.specs.Read.{code_of_job, file_given}
use Rattle.sheet_loader.specs.Reading.{File, Listed, Refused, Unfinished, ends_at}
use Rattle.sheet_loader.specs.References.{Reference, first_lost}
use Rattle.sheet_loader.specs.Remaining.{Reads_on, Refused_at, Spent, Wants_file, beginning, file_level, file_then, goes_on, place_of, remaining, version_by}
use Rattle.sheet_loader.specs.Resuming.{Of_file, SameAnswer, continue}
use Rattle.sheet_loader.specs.Sound.{IsSound}
use Rattle.sheet_loader.specs.Values.{Reads}
use Rattle.sheet_loader.specs.Versions.{Version, language, version_of}
use Rattle.sheet_loader.specs.declared.draft.Draft.{Draft}
use Rattle.sheet_loader.specs.declared.loader.LoadStop.{LoadStop}
use Rattle.sheet_loader.specs.declared.loader.LoadStop.TheVariants as load
use Rattle.sheet_loader.specs.declared.loader.Progress as loader
use Rattle.sheet_loader.specs.declared.loader.Progress.TheVariants as progress
use Rattle.sheet_loader.specs.declared.refused.Stop.{Stop}
use Rattle.sheet_loader.specs.declared.refused.Stop.TheVariants as stop

module _ (old new : Draft) where
  -- a start tag
  pub tag_taken : (at : Place) (offset : ℕ) (name : Name) (attrs : List Attr) (decls : List Binding) (first : First) (wanted : Result (Option (List ℕ)) Stop)
      → OnOk wanted (IsSound new) → SameFiles wanted old new → IfOk wanted (λ w. WantsFile w at new) → OnOk wanted (OpensElementList old new)
      → ((reads : Reads) (files : List (Option File)) (first : First) (f : Future) → Behind reads files (remaining reads files (Reads_on (stage_of old)) (begins (record { offset = offset; name = name; attrs = attrs; decls = decls }) first f)) new f wanted)
      → TakesOr (event.Start offset name attrs decls first) old new (behind_tag at wanted)
  tag_taken at offset name attrs decls first (Ok None) sound same wants opens behind = record { sound = sound; takes = λ reads files f. behind reads files first f; names = same; lists = element_opened old new opens }
  tag_taken at offset name attrs decls first (Ok (Some href)) sound same wants opens behind = record { sound = (sound, wants); takes = λ reads files f. behind reads files first f; names = same; lists = (tt, element_opened old new opens, include_open href at new wants) }
  tag_taken at offset name attrs decls first (Err (stop.Fault why place)) sound same wants opens behind = record { sound = tt; takes = λ reads files f. behind reads files first f; names = same; lists = tt }
  tag_taken at offset name attrs decls first (Err stop.Memory) sound same wants opens behind = tt

  -- the end of an element
  pub end_taken : (offset : ℕ) (ended : Result Bool Stop)
      → OnOk ended (IsSound new) → SameFiles ended old new → IfOk ended (λ is_all. EndsLastOr is_all old new)
      → ((reads : Reads) (files : List (Option File)) (mark : Mark) (offset : ℕ) (f : Future) → BehindEnd reads files (remaining reads files (Reads_on (stage_of old)) (End mark offset ∷ f)) new f ended)
      → TakesOr (event.End offset) old new (behind_end ended)
  end_taken offset (Ok true) sound same closes behind = record { sound = sound; takes = λ reads files f. behind reads files Told offset f; names = same; lists = last_closed old closes }
  end_taken offset (Ok false) sound same closes behind = record { sound = sound; takes = λ reads files f. behind reads files Told offset f; names = same; lists = list_closed old new closes }
  end_taken offset (Err (stop.Fault why place)) sound same closes behind = record { sound = tt; takes = λ reads files f. behind reads files Told offset f; names = same; lists = tt }
  end_taken offset (Err stop.Memory) sound same closes behind = tt

  -- the end of a document
  pub document_taken : (offset : ℕ) (ended : Result Bool Stop)
      → OnOk ended (IsSound new) → SameFiles ended old new → IfOk ended (λ is_all. EndsLastOr is_all old new)
      → ((reads : Reads) (files : List (Option File)) (mark : Mark) (offset : ℕ) (f : Future) → BehindEnd reads files (remaining reads files (Reads_on (stage_of old)) (End mark offset ∷ f)) new f ended)
      → TakesOr (event.DocumentEnd offset) old new (behind_end ended)
  document_taken offset (Ok true) sound same closes behind = record { sound = sound; takes = λ reads files f. behind reads files Told offset f; names = same; lists = last_closed old closes }
  document_taken offset (Ok false) sound same closes behind = record { sound = sound; takes = λ reads files f. behind reads files Told offset f; names = same; lists = list_closed old new closes }
  document_taken offset (Err (stop.Fault why place)) sound same closes behind = record { sound = tt; takes = λ reads files f. behind reads files Told offset f; names = same; lists = tt }
  document_taken offset (Err stop.Memory) sound same closes behind = tt

  -- a text
  pub chars_taken : (offset : ℕ) (text : List ℕ) (taken : Result (Unit {0}) Stop)
      → OnOk taken (IsSound new) → SameFiles taken old new → OnOk taken (SameLists old new)
      → ((reads : Reads) (files : List (Option File)) (mark : Mark) (f : Future) → BehindNode reads files (remaining reads files (Reads_on (stage_of old)) (Single mark (Chars offset text) (inner f) ∷ outer f)) new f taken)
      → TakesOr (event.Chars offset text) old new (behind_node taken)
  chars_taken offset text (Ok done) sound same lists behind = record { sound = sound; takes = λ reads files f. behind reads files Told f; names = same; lists = lists_kept old new lists }
  chars_taken offset text (Err (stop.Fault why place)) sound same lists behind = record { sound = tt; takes = λ reads files f. behind reads files Told f; names = same; lists = tt }
  chars_taken offset text (Err stop.Memory) sound same lists behind = tt

  -- a CDATA section
  pub cdata_taken : (offset : ℕ) (text : List ℕ) (taken : Result (Unit {0}) Stop)
      → OnOk taken (IsSound new) → SameFiles taken old new → OnOk taken (SameLists old new)
      → ((reads : Reads) (files : List (Option File)) (mark : Mark) (f : Future) → BehindNode reads files (remaining reads files (Reads_on (stage_of old)) (Single mark (CData offset text) (inner f) ∷ outer f)) new f taken)
      → TakesOr (event.CData offset text) old new (behind_node taken)
  cdata_taken offset text (Ok done) sound same lists behind = record { sound = sound; takes = λ reads files f. behind reads files Told f; names = same; lists = lists_kept old new lists }
  cdata_taken offset text (Err (stop.Fault why place)) sound same lists behind = record { sound = tt; takes = λ reads files f. behind reads files Told f; names = same; lists = tt }
  cdata_taken offset text (Err stop.Memory) sound same lists behind = tt

module _ (d : Draft) (sound : IsSound d) where
  -- a comment counts for nothing
  pub comment_passed : (offset : ℕ) (text : List ℕ) → TakesOr (event.Comment offset text) d d progress.Reads
  comment_passed offset text = record { sound = sound; takes = λ reads files f. passes reads files f; names = refl; lists = refl } where
    passes : (reads : Reads) (files : List (Option File)) (f : Future) → SameAnswer reads files (remaining reads files (Reads_on (stage_of d)) (Single Told (Comment offset text) (inner f) ∷ outer f)) (remaining reads files (Reads_on (stage_of d)) f)
    passes reads files f =
        let s = stage_of d in
        let v = version_by s.version (Single Told (Comment offset text) (inner f) ∷ outer f) in
        let p : Version → Place_in = λ w. place_in s.loading.sheet.files files w s.levels in
        subst (λ w. SameAnswer reads files (goes_on reads files (p v) s.loading (Single Told (Comment offset text) (inner f) ∷ outer f)) (goes_on reads files (p w) s.loading f))
        (version_leaf s.version Told (Comment offset text) f)
        ((passes_over reads files (p v).here (p v).before s.loading (p v).opens (outer f) Told (inner f) offset).0 text)

  -- so does a processing instruction
  pub pi_passed : (offset : ℕ) (target text : List ℕ) → TakesOr (event.Pi offset target text) d d progress.Reads
  pi_passed offset target text = record { sound = sound; takes = λ reads files f. passes reads files f; names = refl; lists = refl } where
    passes : (reads : Reads) (files : List (Option File)) (f : Future) → SameAnswer reads files (remaining reads files (Reads_on (stage_of d)) (Single Told (Pi offset target text) (inner f) ∷ outer f)) (remaining reads files (Reads_on (stage_of d)) f)
    passes reads files f =
        let s = stage_of d in
        let v = version_by s.version (Single Told (Pi offset target text) (inner f) ∷ outer f) in
        let p : Version → Place_in = λ w. place_in s.loading.sheet.files files w s.levels in
        subst (λ w. SameAnswer reads files (goes_on reads files (p v) s.loading (Single Told (Pi offset target text) (inner f) ∷ outer f)) (goes_on reads files (p w) s.loading f))
        (version_leaf s.version Told (Pi offset target text) f)
        ((passes_over reads files (p v).here (p v).before s.loading (p v).opens (outer f) Told (inner f) offset).1 target text)

  -- a file that is read has a fault
  pub bad_comes : (fault : XmlFault) (reads : Reads) (files : List (Option File)) (f : Future)
      → SameAnswer reads files (remaining reads files (Reads_on (stage_of d)) (Cut (Bad fault) ∷ f)) (Halt (Refused (record { file = d.file.number; offset = fault.offset }) code.BadXml))
  bad_comes fault reads files f =
      let s = stage_of d in
      let v = version_by s.version (Cut (Bad fault) ∷ f) in
      let p = place_in s.loading.sheet.files files v s.levels in
      answer_then reads files (cuts_list reads files p.here p.before s.loading p.opens f (Bad fault))
      (equal_answer reads files (ap (λ n. Halt (Refused (record { file = n; offset = fault.offset }) code.BadXml)) (sym (sound.frames.0 s.loading.sheet.files files v).number)))

  -- the limit on sheets is reached in it
  pub limit_comes : (most : ℕ) (reads : Reads) (files : List (Option File)) (f : Future)
      → (place_of files (stage_of d) (Cut Need ∷ f)).here.limit ≡ Some most
      → SameAnswer reads files (remaining reads files (Reads_on (stage_of d)) (Cut Need ∷ f)) (Halt (Refused (record { file = d.file.number; offset = most }) code.SheetTooLarge))
  limit_comes most reads files f limited =
      let s = stage_of d in
      let v = version_by s.version (Cut Need ∷ f) in
      let p = place_in s.loading.sheet.files files v s.levels in
      answer_then reads files (cuts_list reads files p.here p.before s.loading p.opens f Need)
      (equal_answer reads files
      (ap (λ o. ends_at p.here o) limited ∙ ap (λ n. Halt (Refused (record { file = n; offset = most }) code.SheetTooLarge)) (sym (sound.frames.0 s.loading.sheet.files files v).number)))

  -- a file that is wanted is absent
  pub absent_comes : (name : List ℕ) (at : Place) → Includes name at d → (reads : Reads) (files : List (Option File)) (f : Future) → slice_get files (length (names_of d)) ≡ Some None
      → SameAnswer reads files (remaining reads files (Wants_file name (stage_of d)) f) (Say name (Halt (Refused at code.NoDocument)))
  absent_comes name at includes reads files f absent =
      equal_answer reads files (by_what (include_what d.top.opened includes.include).0 ((include_what d.top.opened includes.include).1 d.top.parts d.file d.parts)) where
        v : Version
        v = version_by (stage_of d).version f

        x : Level
        x = level_in d.top d.file d.parts

        outer_levels : List Level
        outer_levels = levels_in (reverse d.below.items) (file_around d.top.opened d.top.around d.file) (parts_around d.top.opened d.top.parts d.parts)

        by_what : (values : Values) → x.what ≡ An_element Include values → file_then reads files (place_of files (stage_of d) f).opens name (loading_of d) f ≡ Say name (Halt (Refused at code.NoDocument))
        by_what values what =
            let l = loading_of d in
            let names = names_of d in
            let in_what : What → Place_in = λ w. entered names files v w x (place_in names files (version_around v w) outer_levels) in
            let q : Place_in = place_in names files v outer_levels in
            let e = tag_of x nameless [] in
            let number : q.here.file ≡ d.file.number = sym ((sound.frames.0 names files v).number ∙ ap (λ w. (in_what w).here.file) what) in
            ap (λ w. file_then reads files (in_what w).opens name l f) what
            ∙ ap (λ o. Say name (and_then (file_given reads files q.here x.at (length l.sheet.files) o name l) (λ r. continue reads files (Of_file q.here q.before e Include values ∷ q.opens) r f))) absent
            ∙ ap (λ n. Say name (Halt (Refused (record { file = n; offset = d.top.at }) code.NoDocument))) number
            ∙ ap (λ p. Say name (Halt (Refused p code.NoDocument))) (sym includes.place)

-- the same progress where events count for nothing
pub kept_over : (p : loader.Progress) (d : Draft) (e : Event) → wanted_in (progress_in p d) ≡ None → (p ≡ progress.Reads → ⊥) → TakesEvent e (progress_in p d) (progress_in p d)
kept_over progress.Reads d e none h = absurd (h refl)
kept_over (progress.Wants name at) d e none h = cc
kept_over progress.Ended d e none h = λ reads files f. equal_answer reads files refl
kept_over (progress.Refused why at) d e none h = λ reads files f. equal_answer reads files refl
kept_over progress.Spent d e none h = λ reads files f. equal_answer reads files refl

pub takes_of : (e : Event) (old new : Draft) (p : loader.Progress) → (p ≡ progress.Spent → ⊥) → TakesOr e old new p → Takes e old new p
takes_of e old new progress.Reads h t = t
takes_of e old new (progress.Wants name at) h t = t
takes_of e old new progress.Ended h t = t
takes_of e old new (progress.Refused why at) h t = t
takes_of e old new progress.Spent h t = absurd (h refl)

-- the sheet's own file, from its beginning
pub begins_reading : (reads : Reads) (name : List ℕ) (own : File) (others : List (Option File)) → own.version ≡ version_of language own.nodes
    → sheet_of reads name (Some own ∷ others) ≡ Say name (remaining reads (Some own ∷ others) (beginning name) (own.nodes ∷ []))
begins_reading reads name own others e =
    ap (λ v. Say name (goes_on reads (Some own ∷ others) (place_in (name ∷ []) (Some own ∷ others) v (file_level ∷ [])) (nothing name) (own.nodes ∷ []))) e

-- a fault that was found
pub refused_told : (names : List (List ℕ)) (at : Place) (why : SheetCode) → EndsInFault (record { names = names; progress = Refused_at at why }) (record { file = name_at names at.file; code = why; offset = at.offset })
refused_told names at why = (at, refl, λ reads files f. record { depth = 0; comes = refl })

module _ (d : Draft) where
  abbrev all_read : Listed
  all_read = record { items = map item_of d.top.items; loading = loading_of d }

  by_lost : (o : Option Reference) (why : SheetCode) (at : Place) → Some (why, at) ≡ option_map known.lost o → whole all_read o ≡ Halt (Refused at why)
  by_lost None why at e = cc
  by_lost (Some r) why at e = ap (λ o. option_map_or (λ p. Halt (Refused p.1 p.0)) o (Halt Unfinished)) (sym e)

  by_none : (o : Option Reference) → None ≡ option_map known.lost o → whole all_read o ≡ Ret all_read
  by_none None e = refl
  by_none (Some r) e = cc

  -- a reference finds nothing
  pub lost_told : (why : SheetCode) (at : Place) → Some (why, at) ≡ known.first_lost_of (known.known d.register) (loading_of d).sheet
      → EndsInFault (record { names = names_of d; progress = progress_at_end true d }) (record { file = name_at (names_of d) at.file; code = why; offset = at.offset })
  lost_told why at e = (at, refl, λ reads files f. record { depth = 0; comes = ap (value (run (code_of_job reads files) 0)) (by_lost (first_lost (loading_of d).sheet (known.known d.register).references) why at e) })

  -- the sheet is given
  pub sheet_told : None ≡ known.first_lost_of (known.known d.register) (loading_of d).sheet → GivesSheet (record { names = names_of d; progress = progress_at_end true d }) (loading_of d).sheet
  sheet_told e = λ reads files f. (all_read, record { depth = 0; comes = ap (value (run (code_of_job reads files) 0)) (by_none (first_lost (loading_of d).sheet (known.known d.register).references) e) }, refl)

-- where a loader stands, by where its draft does
abbrev pub standing : loader.Progress → Draft → Standing
standing p d = record { names = names_of d; progress = progress_in p d }

some_same : {a b : List ℕ} → Some a ≡ Some b → a ≡ b
some_same {a} {b} e = ap (λ o. option_map_or (λ (t : List ℕ). t) o a) e

-- the file is there that is wanted
pub opens_it : (s : Standing) (old new : Draft) (name : List ℕ) (at : Place) → standing (progress.Wants name at) old ≡ s
    → ((reads : Reads) (files : List (Option File)) (file : File) (f : Future) → slice_get files (length (names_of old)) ≡ Some (Some file) → file.version ≡ version_of language file.nodes
    → SameAnswer reads files (remaining reads files (Wants_file name (stage_of old)) f) (Say name (remaining reads files (Reads_on (stage_of new)) (file.nodes ∷ f))))
    → OpensIt s (standing progress.Reads new)
opens_it s old new name at is behind =
    subst (λ (x : Standing). OpensIt x (standing progress.Reads new)) is
    (λ href wanted reads files file f there version.
    subst (λ (h : List ℕ). SameAnswer reads files (remaining reads files (Wants_file name (stage_of old)) f) (Say h (remaining reads files (Reads_on (stage_of new)) (file.nodes ∷ f)))) (some_same wanted)
    (behind reads files file f there version))

pub opens_name : (s : Standing) (old new : Draft) (name : List ℕ) (at : Place) → standing (progress.Wants name at) old ≡ s → names_of new ≡ names_of old ++ name ∷ [] → OpensName (wanted_in s.progress) s.names (names_of new)
opens_name s old new name at is names = subst (λ (x : Standing). OpensName (wanted_in x.progress) x.names (names_of new)) is names

-- it is absent
pub misses_it : (s : Standing) (d : Draft) (name : List ℕ) (at : Place) → standing (progress.Wants name at) d ≡ s → IsSound d → Includes name at d → MissesIt s (standing (progress.Refused code.NoDocument at) d)
misses_it s d name at is sound includes =
    subst (λ (x : Standing). MissesIt x (standing (progress.Refused code.NoDocument at) d)) is
    (λ href wanted reads files f absent.
    subst (λ (h : List ℕ). SameAnswer reads files (remaining reads files (Wants_file name (stage_of d)) f) (Say h (Halt (Refused at code.NoDocument)))) (some_same wanted)
    (absent_comes d sound name at includes reads files f absent))

-- a loader that wants no file misses none
pub misses_none : (s new : Standing) (p : loader.Progress) (d : Draft) → standing p d ≡ s → ((name : List ℕ) (at : Place) → p ≡ progress.Wants name at → ⊥) → MissesIt s new
misses_none s new p d is none = subst (λ (x : Standing). MissesIt x new) is (by_progress p none) where
  by_progress : (q : loader.Progress) → ((name : List ℕ) (at : Place) → q ≡ progress.Wants name at → ⊥) → MissesIt (standing q d) new
  by_progress progress.Reads h = λ href wanted. cc
  by_progress (progress.Wants name at) h = absurd (h name at refl)
  by_progress progress.Ended h = λ href wanted. cc
  by_progress (progress.Refused why at) h = λ href wanted. cc
  by_progress progress.Spent h = λ href wanted. cc

-- nor does it open one
pub opens_none : (s : Standing) (p : loader.Progress) (d : Draft) → standing p d ≡ s → ((name : List ℕ) (at : Place) → p ≡ progress.Wants name at → ⊥) → (new : Standing) → OpensIt s new
opens_none s p d is none new = subst (λ (x : Standing). OpensIt x new) is (by_progress p none) where
  by_progress : (q : loader.Progress) → ((name : List ℕ) (at : Place) → q ≡ progress.Wants name at → ⊥) → OpensIt (standing q d) new
  by_progress progress.Reads h = λ href wanted. cc
  by_progress (progress.Wants name at) h = absurd (h name at refl)
  by_progress progress.Ended h = λ href wanted. cc
  by_progress (progress.Refused why at) h = λ href wanted. cc
  by_progress progress.Spent h = λ href wanted. cc

-- no name is wanted then
pub none_wanted : (p : loader.Progress) (d : Draft) → ((name : List ℕ) (at : Place) → p ≡ progress.Wants name at → ⊥) → wanted_in (progress_in p d) ≡ None
none_wanted (progress.Wants name at) d h = absurd (h name at refl)
none_wanted progress.Reads d h = refl
none_wanted progress.Ended d h = refl
none_wanted (progress.Refused why at) d h = refl
none_wanted progress.Spent d h = refl

-- a loader that wasn't refused
pub none_refused : (p : loader.Progress) (d : Draft) → ((why : SheetCode) (at : Place) → p ≡ progress.Refused why at → ⊥) → is_refused (progress_in p d) ≡ false
none_refused (progress.Refused why at) d h = absurd (h why at refl)
none_refused progress.Reads d h = refl
none_refused (progress.Wants name at) d h = refl
none_refused progress.Ended d h = refl
none_refused progress.Spent d h = refl

-- a loader that doesn't read on isn't stopped
pub stopped_alone : (at : Place) (why : SheetCode) (p : loader.Progress) (d : Draft) → (p ≡ progress.Reads → ⊥) → stopped_at at why (progress_in p d) ≡ progress_in p d
stopped_alone at why progress.Reads d h = absurd (h refl)
stopped_alone at why (progress.Wants name place) d h = refl
stopped_alone at why progress.Ended d h = refl
stopped_alone at why (progress.Refused code place) d h = refl
stopped_alone at why progress.Spent d h = refl

-- the names stay as they are then
pub name_kept : (s : Standing) (p : loader.Progress) (d : Draft) → standing p d ≡ s → ((name : List ℕ) (at : Place) → p ≡ progress.Wants name at → ⊥) → OpensName (wanted_in s.progress) s.names (names_of d)
name_kept s p d is none = subst (λ (x : Standing). OpensName (wanted_in x.progress) x.names (names_of d)) is (by_progress p none) where
  by_progress : (q : loader.Progress) → ((name : List ℕ) (at : Place) → q ≡ progress.Wants name at → ⊥) → OpensName (wanted_in (progress_in q d)) (names_of d) (names_of d)
  by_progress (progress.Wants name at) h = absurd (h name at refl)
  by_progress progress.Reads h = refl
  by_progress progress.Ended h = refl
  by_progress (progress.Refused why at) h = refl
  by_progress progress.Spent h = refl

-- a file that is read has a fault, or more bytes than the limit lets be read
pub ends_bad : (fault : XmlFault) (p : loader.Progress) (d : Draft) → IsSoundBy p d → EndsBad fault (progress_in p d) (stopped_at (record { file = d.file.number; offset = fault.offset }) code.BadXml (progress_in p d))
ends_bad fault progress.Reads d sound = λ reads files f. bad_comes d sound fault reads files f
ends_bad fault (progress.Wants name at) d sound = refl
ends_bad fault progress.Ended d sound = refl
ends_bad fault (progress.Refused why at) d sound = refl
ends_bad fault progress.Spent d sound = refl

pub ends_at_limit : (most : ℕ) (p : loader.Progress) (d : Draft) → IsSoundBy p d → EndsAtLimit most (progress_in p d) (stopped_at (record { file = d.file.number; offset = most }) code.SheetTooLarge (progress_in p d))
ends_at_limit most progress.Reads d sound = λ reads files f limited. limit_comes d sound most reads files f limited
ends_at_limit most (progress.Wants name at) d sound = refl
ends_at_limit most progress.Ended d sound = refl
ends_at_limit most (progress.Refused why at) d sound = refl
ends_at_limit most progress.Spent d sound = refl

-- a loader that isn't stopped is sound
pub sound_of : (p : loader.Progress) (d : Draft) → stop_of p ≡ None → IsSoundBy p d → IsSound d
sound_of progress.Reads d none sound = sound
sound_of (progress.Wants name at) d none sound = sound.0
sound_of progress.Ended d none sound = sound
sound_of (progress.Refused why at) d none sound = cc
sound_of progress.Spent d none sound = cc

-- if there is nothing more to take, its own file was read to its end
pub ended_of : (p : loader.Progress) (d : Draft) → stop_of p ≡ None → is_over (progress_in p d) ≡ true → p ≡ progress.Ended
ended_of progress.Reads d none over = cc
ended_of (progress.Wants name at) d none over = cc
ended_of progress.Ended d none over = refl
ended_of (progress.Refused why at) d none over = cc
ended_of progress.Spent d none over = cc

-- a loader that is stopped by a fault
pub refused_of : (p : loader.Progress) (why : SheetCode) (at : Place) → stop_of p ≡ Some (stop.Fault why at) → p ≡ progress.Refused why at
refused_of progress.Reads why at e = cc
refused_of (progress.Wants name place) why at e = cc
refused_of progress.Ended why at e = cc
refused_of (progress.Refused code place) why at e = cc
refused_of progress.Spent why at e = cc

-- a loader for which memory was wanting
pub spent_of : (p : loader.Progress) (d : Draft) → progress_in p d ≡ Spent → p ≡ progress.Spent
spent_of progress.Reads d e = cc
spent_of (progress.Wants name at) d e = cc
spent_of progress.Ended d e = cc
spent_of (progress.Refused why at) d e = cc
spent_of progress.Spent d e = refl

abbrev fault_in : SheetFault → LoadStop → SheetFault
fault_in other (load.Fault fault) = fault
fault_in other load.Memory = other

-- a stop tells one fault
pub one_fault : (a b : SheetFault) (x : LoadStop) → x ≡ load.Fault a → x ≡ load.Fault b → a ≡ b
one_fault a b x e g = ap (fault_in a) (sym e ∙ g)
