-- How the files come to what is still to be done, step by step.
use Rattle.std.proofs.Common.{◌≡◌, ℕ, ◌≤◌, Bool, List, [], ◌∷◌, ◌++◌, map, length, Option, Some, refl, sym, ap, subst, ◌∙◌, arith, append_assoc}
use Rattle.stx_base.specs.Course.{says}
use Rattle.stx_base.specs.declared.limits.Limits.{Limits}
use Rattle.xml_events.specs.Answering.{lists_behind}
use Rattle.xml_events.specs.Source.{Source, future}
use Rattle.xml_events.specs.Telling.{followed}
use Rattle.xml_events.specs.Tree.{Future}
use Rattle.xml_events.specs.declared.event.Event.{Event}
use Rattle.xml_events.specs.declared.event.Event.TheVariants as event
use Rattle.sheet_loader.specs.Load.{sheet_of}
use Rattle.sheet_loader.specs.Loaders.{TakesEvent}
use Rattle.sheet_loader.specs.Reading.{File}
use Rattle.sheet_loader.specs.Remaining.{Progress, remaining}
use Rattle.sheet_loader.specs.Resuming.{SameAnswer}
use Rattle.sheet_files.specs.Frames.{Frame, GoesOn, cut_file, files_cut, lists_at, lists_cut, whole_file}
use Rattle.sheet_files.proofs.Courses.{answer_said, answer_then, equal_answer}

-- an event before two futures is one before both
joined : (e : Event) (f g : Future) → length f ≡ lists_behind e (length (followed e f)) → followed e f ++ g ≡ followed e (f ++ g)
joined (event.Start offset name attrs decls first) (a ∷ b ∷ f) g n = refl
joined (event.Start offset name attrs decls first) (a ∷ []) g n = cc
joined (event.Start offset name attrs decls first) [] g n = cc
joined (event.End offset) f g n = refl
joined (event.DocumentEnd offset) f g n = refl
joined (event.Chars offset text) (a ∷ f) g n = refl
joined (event.Chars offset text) [] g n = cc
joined (event.CData offset text) (a ∷ f) g n = refl
joined (event.CData offset text) [] g n = cc
joined (event.Comment offset text) (a ∷ f) g n = refl
joined (event.Comment offset text) [] g n = cc
joined (event.Pi offset target text) (a ∷ f) g n = refl
joined (event.Pi offset target text) [] g n = cc

module _ (limits : Limits) (name : List ℕ) (names : List (List ℕ)) where
  -- an event of the innermost file is taken
  pub event_taken : (f : Frame) (outer : List Frame) (s : Source) (lists : ℕ) (e : Event) (old new : Progress)
      → ((more : List ℕ) (ended : Bool) → future f.source more ended ≡ followed e (future s more ended))
      → ((more : List ℕ) (ended : Bool) → length (future s more ended) ≡ lists_behind e (length (future f.source more ended)))
      → TakesEvent e old new
      → GoesOn limits name names (f ∷ outer) old → GoesOn limits name names (record f { source = s; lists = lists } ∷ outer) new
  event_taken f outer s lists e old new tells counts takes goes [] cut reads others = absurd cut
  event_taken f outer s lists e old new tells counts takes goes (m ∷ cuts) cut reads others =
      let files = files_cut limits (f ∷ outer) (m ∷ cuts) ++ others in
      let x = lists_at s f.taken f.part.bytes m in
      let y = lists_cut outer cuts in
      let is : lists_at f.source f.taken f.part.bytes m ≡ followed e x = tells _ _ in
      let n : length x ≡ lists_behind e (length (followed e x)) = counts _ _ ∙ ap (λ (g : Future). lists_behind e (length g)) is in
      let before : lists_at f.source f.taken f.part.bytes m ++ y ≡ followed e (x ++ y) = ap (λ (g : Future). g ++ y) is ∙ joined e x y n in
      answer_then reads files (goes (m ∷ cuts) cut reads others)
      (answer_said reads files names
      (answer_then reads files (equal_answer reads files (ap (remaining reads files old) before)) (takes reads files (x ++ y))))

  -- the innermost file's reader was given more, which changes nothing
  pub given_more : (f : Frame) (outer : List Frame) (s : Source) (taken : ℕ) (p : Progress) → f.taken ≤ taken
      → ((m : ℕ) → taken ≤ m → lists_at s taken f.part.bytes m ≡ lists_at f.source f.taken f.part.bytes m)
      → GoesOn limits name names (f ∷ outer) p → GoesOn limits name names (record f { source = s; taken = taken } ∷ outer) p
  given_more f outer s taken p more same goes [] cut reads others = absurd cut
  given_more f outer s taken p more same goes (m ∷ cuts) cut reads others =
      let files = files_cut limits (f ∷ outer) (m ∷ cuts) ++ others in
      let le : f.taken ≤ m = let h : taken ≤ m = cut.0 in omega arith in
      answer_then reads files (goes (m ∷ cuts) (le, cut.1) reads others)
      (equal_answer reads files (ap (λ (g : Future). says names (remaining reads files p (g ++ lists_cut outer cuts))) (sym (same m cut.0))))

  -- the files are the same where the innermost one was read to its end
  pub files_left : (f g : Frame) (outer : List Frame) (m : ℕ) (cuts : List ℕ)
      → files_cut limits (f ∷ g ∷ outer) (length f.part.bytes ∷ m ∷ cuts) ≡ files_cut limits (record g { done = g.done ++ f.part ∷ f.done } ∷ outer) (m ∷ cuts)
  files_left f g outer m cuts =
      let before = files_cut limits outer cuts in
      let own = Some (cut_file limits g.part.bytes m) in
      append_assoc before (own ∷ map (whole_file limits) g.done) (map (whole_file limits) (f.part ∷ f.done))
      ∙ ap (λ (l : List (Option File)). before ++ own ∷ l) (sym (map_append (whole_file limits) g.done (f.part ∷ f.done))) where
        map_append : {A B : Type 0} (h : A → B) (xs ys : List A) → map h (xs ++ ys) ≡ map h xs ++ map h ys
        map_append h [] ys = refl
        map_append h (x ∷ xs) ys = ap (λ l. h x ∷ l) (map_append h xs ys)

  -- it is left
  pub left_file : (f g : Frame) (outer : List Frame) (p : Progress) → f.taken ≤ length f.part.bytes
      → ((more : List ℕ) (ended : Bool) → future f.source more ended ≡ [])
      → GoesOn limits name names (f ∷ g ∷ outer) p → GoesOn limits name names (record g { done = g.done ++ f.part ∷ f.done } ∷ outer) p
  left_file f g outer p whole none goes [] cut reads others = absurd cut
  left_file f g outer p whole none goes (m ∷ cuts) cut reads others =
      let all = length f.part.bytes in
      let y = lists_cut (g ∷ outer) (m ∷ cuts) in
      let lists : lists_at f.source f.taken f.part.bytes all ++ y ≡ y = ap (λ (x : Future). x ++ y) (none _ _) in
      subst (λ (fs : List (Option File)). SameAnswer reads (fs ++ others) (sheet_of reads name (fs ++ others)) (says names (remaining reads (fs ++ others) p y))) (files_left f g outer m cuts)
      (subst (λ (x : Future). let files = files_cut limits (f ∷ g ∷ outer) (all ∷ m ∷ cuts) ++ others in SameAnswer reads files (sheet_of reads name files) (says names (remaining reads files p x))) lists
      (goes (all ∷ m ∷ cuts) (whole, cut) reads others))
