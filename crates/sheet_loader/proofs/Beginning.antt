-- What a start tag comes to: the declarations of the tag are taken, and then its element by where it stands.
use Rattle.std.proofs.Common.{◌≡◌, ℕ, ◌≤◌, Bool, true, false, List, ◌++◌, not, ◌&&◌, length, take, drop, Option, Some, None, Result, Ok, Err, IfOk, OnOk, refl, ap, sym, ◌∙◌, arith, if◌then◌else◌}
use Rattle.std.proofs.Math.Path.{subst}
use Rattle.std.proofs.Math.Seq.{drop-append_seam, take-append_seam}
use Rattle.std.proofs.lemmas.List.{length-append}
use Rattle.std.specs.Option.{option_map_or}
use Rattle.stx_base.specs.Course.{Halt}
use Rattle.stx_base.specs.declared.fault.Place.{Place}
use Rattle.stx_base.specs.declared.fault.SheetCode.TheVariants as code
use Rattle.stx_base.specs.declared.name.Attr.{Attr}
use Rattle.stx_base.specs.declared.name.Binding.{Binding}
use Rattle.stx_base.specs.declared.name.Name.{Name}
use Rattle.stx_base.specs.declared.node.First.{First}
use Rattle.xml_events.specs.Document.{inner}
use Rattle.xml_events.specs.Tree.{Element, Future}
use Rattle.sheet_loader.proofs.Behind.{same_behind}
use Rattle.sheet_loader.proofs.Resuming.{answer_then, equal_answer}
use Rattle.sheet_loader.proofs.Starts.{element_comes, inner_of_root, known_good, known_refused, literal_of, part_of, root_of}
use Rattle.sheet_loader.proofs.TagPlaces.{file_here, inside_here}
use Rattle.sheet_loader.specs.Drafts.{before_tag, element_of, loading_of}
use Rattle.sheet_loader.specs.Elements as element
use Rattle.sheet_loader.specs.Elements.{Kind, allows_literals, is_transform, kind_named}
use Rattle.sheet_loader.specs.Events.{Behind, BehindOther, BehindTag, begins, place_at, stage_of, then_next}
use Rattle.sheet_loader.specs.Gathering.{IsJudged}
use Rattle.sheet_loader.specs.Judging.{fault_of, is_stx, is_transform_named, values}
use Rattle.sheet_loader.specs.Levels.{Place_in}
use Rattle.sheet_loader.specs.Making.{Values}
use Rattle.sheet_loader.specs.Meant.{inside_of, stop_at}
use Rattle.sheet_loader.specs.Named.{SameFiles, SameFilesByTag, names_of}
use Rattle.sheet_loader.specs.Read.{copied, good, known, literal, literal_judged, templates}
use Rattle.sheet_loader.specs.Read as read
use Rattle.sheet_loader.specs.Reading.{Does, File, Listed, Refused, refused}
use Rattle.sheet_loader.specs.Remaining.{Reads_on, remaining}
use Rattle.sheet_loader.specs.Resuming.{SameAnswer}
use Rattle.sheet_loader.specs.Sound.{IsSound, is_document, is_of_parts}
use Rattle.sheet_loader.specs.Tags.{path_fault}
use Rattle.sheet_loader.specs.Values.{Reads}
use Rattle.sheet_loader.specs.declared.draft.Draft.{Draft}
use Rattle.sheet_loader.specs.declared.element.StartTag.{StartTag}
use Rattle.sheet_loader.specs.declared.frame.OpenFile.{OpenFile}
use Rattle.sheet_loader.specs.declared.refused.Refused as stopped
use Rattle.sheet_loader.specs.declared.refused.Refused.TheVariants as stop

module _ (reads : Reads) (files : List (Option File)) where
  -- what is still done after one is still done after another that does the same
  pub tag_from : {x y : Does Listed} → SameAnswer reads files x y → (at : Place) (d : Draft) (f : Future) (r : Result (Option (List ℕ)) stopped.Refused) → BehindTag reads files y at d f r → BehindTag reads files x at d f r
  tag_from same at d f (Ok wanted) h = answer_then reads files same h
  tag_from same at d f (Err (stop.Code why)) h = answer_then reads files same h
  tag_from same at d f (Err stop.Memory) h = tt

  pub other_from : {x y : Does Listed} → SameAnswer reads files x y → (at : Place) (d : Draft) (f : Future) (r : Result (Unit {0}) stopped.Refused) → BehindOther reads files y at d f r → BehindOther reads files x at d f r
  other_from same at d f (Ok done) h = answer_then reads files same h
  other_from same at d f (Err (stop.Code why)) h = answer_then reads files same h
  other_from same at d f (Err stop.Memory) h = tt

  -- the fault is told with its place
  pub told_at : (x : Does Listed) (at : Place) (d : Draft) (f : Future) (r : stopped.Refused) → BehindTag reads files x at d f (Err r) → Behind reads files x d f (Err (stop_at r at))
  told_at x at d f (stop.Code why) h = h
  told_at x at d f stop.Memory h = tt

-- no file is opened where nothing changes
pub unopened : (A : Type 0) (d : Draft) (r : stopped.Refused) → SameFilesByTag {A = A} (Err r) d d
unopened A d (stop.Code why) = refl
unopened A d stop.Memory = tt

pub unopened_too : (A B : Type 0) (d new : Draft) (r : stopped.Refused) → SameFilesByTag {A = A} (Err r) d new → SameFilesByTag {A = B} (Err r) d new
unopened_too A B d new (stop.Code why) h = h
unopened_too A B d new stop.Memory h = tt

pub unopened_from : {A : Type 0} (d mid new : Draft) (r : Result A stopped.Refused) → names_of mid ≡ names_of d → SameFilesByTag r mid new → SameFilesByTag r d new
unopened_from d mid new (Ok a) e h = h ∙ e
unopened_from d mid new (Err (stop.Code why)) e h = h ∙ e
unopened_from d mid new (Err stop.Memory) e h = tt

pub unopened_at : (A : Type 0) (d new : Draft) (at : Place) (r : stopped.Refused) → SameFilesByTag {A = A} (Err r) d new → SameFiles {A = A} (Err (stop_at r at)) d new
unopened_at A d new at (stop.Code why) h = h
unopened_at A d new at stop.Memory h = tt

-- what holds anyway
pub on_ok_always : {T E P : Type 0} (r : Result T E) → P → OnOk r P
on_ok_always (Ok t) p = p
on_ok_always (Err e) p = tt

pub if_ok_three : {T E : Type 0} (r : Result T E) (A B C D : T → Type 0) → ((t : T) → A t → B t → C t → D t) → IfOk r A → IfOk r B → IfOk r C → IfOk r D
if_ok_three (Ok t) A B C D f a b c = f t a b c
if_ok_three (Err e) A B C D f a b c = tt

-- only a transform is one
pub transform_kind : (o : Option Kind) → option_map_or is_transform o false ≡ true → o ≡ Some element.Transform
transform_kind None h = cc
transform_kind (Some element.Transform) h = refl
transform_kind (Some other) h = cc

both_true : (a b : Bool) → (a && b) ≡ true → b ≡ true
both_true true b h = h
both_true false b h = cc

pub transform_named : (n : Name) → is_transform_named n ≡ true → kind_named n.local ≡ Some element.Transform
transform_named n h = transform_kind (kind_named n.local) (both_true (is_stx n) (option_map_or is_transform (kind_named n.local) false) h)

-- the declarations of a tag are taken
module _ (d : Draft) (offset : ℕ) (name : Name) (attrs : List Attr) (decls : List Binding) (file : OpenFile) (around : ℕ) (is : file ≡ record d.file { scope = d.file.scope ++ decls }) (long : around ≡ length d.file.scope) where
  abbrev pub taken : Draft
  taken = record d { file = file }

  abbrev pub tag_of_start : StartTag
  tag_of_start = record { offset = offset; name = name; attrs = attrs; around = around }

  abbrev pub element_of_start : Element
  element_of_start = record { offset = offset; name = name; attrs = attrs; decls = decls }

  pub before_start : before_tag taken around ≡ d
  before_start =
      ap (λ (n : ℕ). before_tag taken n) long
      ∙ ap (λ (g : OpenFile). before_tag (record d { file = g }) (length d.file.scope)) is
      ∙ ap (λ (s : List Binding). record d { file = record d.file { scope = s } }) (take-append_seam d.file.scope decls)

  pub element_start : element_of tag_of_start taken ≡ element_of_start
  element_start =
      ap (λ (n : ℕ). record element_of_start { decls = drop n file.scope }) long
      ∙ ap (λ (g : OpenFile). record element_of_start { decls = drop (length d.file.scope) g.scope }) is
      ∙ ap (λ (s : List Binding). record element_of_start { decls = s }) (drop-append_seam d.file.scope decls)

  pub scope_longer : around ≤ length file.scope
  scope_longer = let l = ap (λ (g : OpenFile). length g.scope) is in let m = length-append d.file.scope decls in omega (arith, l, m)

  pub sound_start : IsSound d → IsSound (before_tag taken around)
  sound_start sound = subst IsSound (sym before_start) sound

  pub start_comes : (reads : Reads) (files : List (Option File)) (first : First) (f : Future)
      → SameAnswer reads files (remaining reads files (Reads_on (stage_of d)) (begins element_of_start first f))
      (remaining reads files (Reads_on (stage_of (before_tag taken around))) (begins (element_of tag_of_start taken) first f))
  start_comes reads files first f =
      equal_answer reads files
      (ap (λ (x : Draft). remaining reads files (Reads_on (stage_of x)) (begins element_of_start first f)) (sym before_start)
      ∙ ap (λ (x : Element). remaining reads files (Reads_on (stage_of (before_tag taken around))) (begins x first f)) (sym element_start))

-- an element comes, by where it stands
module _ (d : Draft) (tag : StartTag) (sound : IsSound (before_tag d tag.around)) (reads : Reads) (files : List (Option File)) (first : First) (f : Future) where
  abbrev e : Element
  e = element_of tag d

  abbrev p : Place_in
  p = place_at files (begins e first f) (before_tag d tag.around)

  abbrev comes : Does Listed
  comes = remaining reads files (Reads_on (stage_of (before_tag d tag.around))) (begins e first f)

  abbrev next : Does Listed → Does Listed
  next x = then_next reads files p x f

  -- its element is what is read next
  pub tag_comes : SameAnswer reads files comes (next (read.element_of reads files p.here p.before e (inner f) p.here.inside (loading_of d)))
  tag_comes = element_comes reads files (stage_of (before_tag d tag.around)) e first f

  same_document : is_document (inside_of d.top.inside) ≡ is_document p.here.inside
  same_document = ap is_document (inside_here d tag.around sound files (begins e first f)) ∙ same_behind is_document refl p.before p.here.inside

  pub root_known : is_document (inside_of d.top.inside) ≡ true → is_transform_named tag.name ≡ true
      → read.element_of reads files p.here p.before e (inner f) p.here.inside (loading_of d) ≡ known reads files p.here p.before e (inner f) (kind_named tag.name.local) (loading_of d)
  root_known h t =
      root_of reads files p.here p.before e (inner f) (loading_of d) p.here.inside (sym same_document ∙ h)
      ∙ ap (λ b. if b then known reads files p.here p.before e (inner f) (kind_named tag.name.local) (loading_of d) else Halt (Refused (record { file = p.here.file; offset = tag.offset }) code.NotStx)) t

  pub root_refused : is_document (inside_of d.top.inside) ≡ true → is_transform_named tag.name ≡ false
      → next (read.element_of reads files p.here p.before e (inner f) p.here.inside (loading_of d)) ≡ Halt (Refused (record { file = d.file.number; offset = tag.offset }) code.NotStx)
  root_refused h t =
      ap next (root_of reads files p.here p.before e (inner f) (loading_of d) p.here.inside (sym same_document ∙ h)
      ∙ ap (λ b. if b then known reads files p.here p.before e (inner f) (kind_named tag.name.local) (loading_of d) else Halt (Refused (record { file = p.here.file; offset = tag.offset }) code.NotStx)) t)
      ∙ ap (λ (n : ℕ). Halt (Refused (record { file = n; offset = tag.offset }) code.NotStx)) (file_here d tag.around sound files (begins e first f))

  abbrev by_name : Bool → Does Listed
  by_name b = if b then known reads files p.here p.before e (inner f) (kind_named tag.name.local) (loading_of d) else literal_judged reads files p.here p.before e (inner f) p.here.inside (loading_of d)

  pub inner_by_name : is_document (inside_of d.top.inside) ≡ false → (b : Bool) → is_stx tag.name ≡ b → SameAnswer reads files comes (next (by_name b))
  inner_by_name h b s =
      answer_then reads files tag_comes
      (equal_answer reads files
      (ap next (inner_of_root reads files p.here p.before e (inner f) (loading_of d) p.here.inside (sym same_document ∙ h) ∙ ap by_name s)))

  -- a name that is none of the language
  pub unknown_refused : next (known reads files p.here p.before e (inner f) None (loading_of d)) ≡ Halt (Refused (record { file = d.file.number; offset = tag.offset }) code.UnknownElement)
  unknown_refused = ap (λ (n : ℕ). Halt (Refused (record { file = n; offset = tag.offset }) code.UnknownElement)) (file_here d tag.around sound files (begins e first f))

  same_parts : is_of_parts (inside_of d.top.inside) ≡ is_of_parts p.here.inside
  same_parts = ap is_of_parts (inside_here d tag.around sound files (begins e first f)) ∙ same_behind is_of_parts refl p.before p.here.inside

  same_allows : allows_literals (inside_of d.top.inside) ≡ allows_literals p.here.inside
  same_allows = ap allows_literals (inside_here d tag.around sound files (begins e first f)) ∙ same_behind allows_literals refl p.before p.here.inside

  -- an element of a buffer's content
  pub part_comes : is_of_parts (inside_of d.top.inside) ≡ true
      → next (literal_judged reads files p.here p.before e (inner f) p.here.inside (loading_of d)) ≡ next (copied reads files p.here e (inner f) (loading_of d))
  part_comes h = ap next (part_of reads files p.here p.before e (inner f) (loading_of d) p.here.inside (sym same_parts ∙ h))

  abbrev by_place : Bool → Does Listed
  by_place b =
      if not b then refused p.here e.offset code.Misplaced
      else option_map_or (λ why. refused p.here e.offset why) (path_fault (templates reads files p.here e)) (literal reads files p.here p.before e (inner f) (loading_of d))

  literal_by : is_of_parts (inside_of d.top.inside) ≡ false → (b : Bool) → allows_literals (inside_of d.top.inside) ≡ b
      → next (literal_judged reads files p.here p.before e (inner f) p.here.inside (loading_of d)) ≡ next (by_place b)
  literal_by h b a =
      ap next (literal_of reads files p.here p.before e (inner f) (loading_of d) p.here.inside (sym same_parts ∙ h) ∙ ap by_place (sym same_allows ∙ a))

  -- an element of a body
  pub literal_comes : is_of_parts (inside_of d.top.inside) ≡ false → allows_literals (inside_of d.top.inside) ≡ true
      → next (literal_judged reads files p.here p.before e (inner f) p.here.inside (loading_of d))
      ≡ next (option_map_or (λ why. refused p.here e.offset why) (path_fault (templates reads files p.here e)) (literal reads files p.here p.before e (inner f) (loading_of d)))
  literal_comes h a = literal_by h true a

  -- one that may not stand there
  pub literal_misplaced : is_of_parts (inside_of d.top.inside) ≡ false → allows_literals (inside_of d.top.inside) ≡ false
      → next (literal_judged reads files p.here p.before e (inner f) p.here.inside (loading_of d)) ≡ Halt (Refused (record { file = d.file.number; offset = tag.offset }) code.Misplaced)
  literal_misplaced h a = literal_by h false a ∙ ap (λ (n : ℕ). Halt (Refused (record { file = n; offset = tag.offset }) code.Misplaced)) (file_here d tag.around sound files (begins e first f))

  -- an element of the language that is refused
  pub known_stops : (new : Draft) (k : Kind) (r : stopped.Refused) → IsJudged (fault_of reads p.here p.before (loading_of d).sheet e k) (values reads p.here k e) (Err r)
      → BehindTag reads files (next (known reads files p.here p.before e (inner f) (Some k) (loading_of d))) (record { file = d.file.number; offset = tag.offset }) new f (Err r)
  known_stops new k (stop.Code why) h =
      equal_answer reads files
      (ap next (known_refused reads files p.here p.before e (inner f) (loading_of d) k why h)
      ∙ ap (λ (n : ℕ). Halt (Refused (record { file = n; offset = tag.offset }) why)) (file_here d tag.around sound files (begins e first f)))
  known_stops new k stop.Memory h = tt

  -- one without faults
  pub known_goes : (k : Kind) (v : Values) → fault_of reads p.here p.before (loading_of d).sheet e k ≡ None → v ≡ values reads p.here k e
      → next (known reads files p.here p.before e (inner f) (Some k) (loading_of d)) ≡ next (good reads files p.here p.before e (inner f) k v (loading_of d))
  known_goes k v h same = ap next (known_good reads files p.here p.before e (inner f) (loading_of d) k h) ∙ ap (λ (w : Values). next (good reads files p.here p.before e (inner f) k w (loading_of d))) (sym same)

  pub known_of : (o : Option Kind) → kind_named tag.name.local ≡ o
      → next (known reads files p.here p.before e (inner f) (kind_named tag.name.local) (loading_of d)) ≡ next (known reads files p.here p.before e (inner f) o (loading_of d))
  known_of o h = ap (λ (x : Option Kind). next (known reads files p.here p.before e (inner f) x (loading_of d))) h

  -- one that is none of the language and is refused
  pub other_begins : is_document (inside_of d.top.inside) ≡ false → is_stx tag.name ≡ false → (new : Draft) (r : stopped.Refused)
      → BehindOther reads files (next (literal_judged reads files p.here p.before e (inner f) p.here.inside (loading_of d))) (record { file = d.file.number; offset = tag.offset }) new f (Err r)
      → BehindTag reads files comes (record { file = d.file.number; offset = tag.offset }) new f (Err r)
  other_begins h s new (stop.Code why) b = answer_then reads files (inner_by_name h false s) b
  other_begins h s new stop.Memory b = tt
