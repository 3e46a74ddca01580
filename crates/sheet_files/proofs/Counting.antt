-- The open lists, the numbers of the files, and how far they may be read.
use Rattle.std.proofs.Common.{◌≡◌, ℕ, zero, suc, ◌+◌, ◌-◌, ◌<◌, ◌≤◌, Bool, true, false, List, [], ◌∷◌, ◌++◌, map, length, slice_get, Option, Some, refl, sym, ap, subst, ◌∙◌, arith, append_assoc, length-append}
use Rattle.std.proofs.lemmas.Bool.{leb-true, leb-false}
use Rattle.std.specs.Option.{option_and_then}
use Rattle.std.specs.Prelude.{nat_le, if◌then◌else◌}
use Rattle.stx_base.specs.declared.limits.Limits.{Limits}
use Rattle.xml_events.specs.Answering.{lists_behind as count_behind}
use Rattle.xml_events.specs.Telling.{event_of, pulled, start_pulled}
use Rattle.xml_events.specs.Tree as tree
use Rattle.xml_events.specs.Tree.{Need, Bad, Leaf, Chars, CData, Comment, Pi, Forest, Future, End, Cut, Single, Nested}
use Rattle.xml_events.specs.declared.event.Event.{Event}
use Rattle.xml_events.specs.declared.event.Event.TheVariants as event
use Rattle.xml_events.specs.declared.event.Pull.TheVariants as pull
use Rattle.sheet_loader.specs.Files.{greater, limit_within, share}
use Rattle.sheet_loader.specs.Levels.{limit_at}
use Rattle.sheet_loader.specs.Lists.{Of, lists_behind}
use Rattle.sheet_loader.specs.Reading.{File}
use Rattle.sheet_files.specs.Following.{Include}
use Rattle.sheet_files.specs.Frames.{AreCut, Frame, as_opened, cut_file, files_cut, list_of, lists_onto, lists_open, numbers_of, parts_of, shares, whole_file}
use Rattle.sheet_files.proofs.Opening.{length_map, slice_at}
use Rattle.sheet_files.proofs.Places.{number_in, numbers_in}

pub greater_first : (a b : ℕ) → a ≤ greater a b
greater_first a b = as_case (nat_le a b) refl where
  as_case : (x : Bool) → nat_le a b ≡ x → a ≤ (if x then b else a)
  as_case true e = leb-true a b e
  as_case false e = omega arith

pub greater_second : (a b : ℕ) → b ≤ greater a b
greater_second a b = as_case (nat_le a b) refl where
  as_case : (x : Bool) → nat_le a b ≡ x → b ≤ (if x then b else a)
  as_case true e = omega arith
  as_case false e = let h : b < a = leb-false a b e in omega arith

pub greater_is : (a b : ℕ) → b ≤ a → greater a b ≡ a
greater_is a b le = as_case (nat_le a b) refl where
  as_case : (x : Bool) → nat_le a b ≡ x → (if x then b else a) ≡ a
  as_case true e = let h : a ≤ b = leb-true a b e in omega arith
  as_case false e = refl

-- as much may be read of each file as was read
outer_shared : (limits : Limits) (outer : List Frame) → Include outer → AreCut outer (shares limits outer)
outer_shared limits [] include = tt
outer_shared limits (f ∷ outer) include =
    let le : f.part.known ≤ share limits (as_opened f.part) = greater_second ((limits.sheet - f.part.before) - f.part.inside) f.part.known in
    (subst (λ (n : ℕ). n ≤ share limits (as_opened f.part)) include.2 le, outer_shared limits outer include.3)

pub cuts_shared : (limits : Limits) (f : Frame) (outer : List Frame) (spent : ℕ) → f.part.before + f.part.inside + f.taken ≡ spent → spent ≤ limits.sheet → Include outer → AreCut (f ∷ outer) (shares limits (f ∷ outer))
cuts_shared limits f outer spent adds le include =
    let here : (limits.sheet - f.part.before) - f.part.inside ≤ share limits (as_opened f.part) = greater_first ((limits.sheet - f.part.before) - f.part.inside) f.part.known in
    (omega arith, outer_shared limits outer include)

-- the innermost file may be read so far as it was, where nothing is left
pub share_taken : (limits : Limits) (f : Frame) (spent : ℕ) → f.part.before + f.part.inside + f.taken ≡ spent → spent ≡ limits.sheet → f.part.known ≤ f.taken → share limits (as_opened f.part) ≡ f.taken
share_taken limits f spent adds all known =
    let a : (limits.sheet - f.part.before) - f.part.inside ≡ f.taken = omega arith in
    greater_is ((limits.sheet - f.part.before) - f.part.inside) f.part.known (omega arith) ∙ a

-- as many files are cut as were opened
pub length_cut : (limits : Limits) (frames : List Frame) (cuts : List ℕ) → AreCut frames cuts → length (files_cut limits frames cuts) ≡ length (parts_of frames)
length_cut limits [] [] cut = refl
length_cut limits [] (m ∷ cuts) cut = absurd cut
length_cut limits (f ∷ outer) [] cut = absurd cut
length_cut limits (f ∷ outer) (m ∷ cuts) cut =
    let a = length-append (files_cut limits outer cuts) (Some (cut_file limits f.part.bytes m) ∷ map (whole_file limits) f.done) in
    let b = length-append (parts_of outer) (f.part ∷ f.done) in
    let c = length_cut limits outer cuts cut.1 in
    let d = length_map (whole_file limits) f.done in
    a ∙ ap (λ (n : ℕ). n + suc (length (map (whole_file limits) f.done))) c ∙ ap (λ (n : ℕ). length (parts_of outer) + suc n) d ∙ sym b

-- the innermost file among all
pub file_there : (limits : Limits) (f : Frame) (outer : List Frame) (m : ℕ) (cuts : List ℕ) (others : List (Option File)) → AreCut outer cuts
    → slice_get (files_cut limits (f ∷ outer) (m ∷ cuts) ++ others) (length (parts_of outer)) ≡ Some (Some (cut_file limits f.part.bytes m))
file_there limits f outer m cuts others cut =
    let before = files_cut limits outer cuts in
    let file = Some (cut_file limits f.part.bytes m) in
    let behind = map (whole_file limits) f.done in
    ap (λ (l : List (Option File)). slice_get l (length (parts_of outer))) (append_assoc before (file ∷ behind) others)
    ∙ ap (λ (n : ℕ). slice_get (before ++ file ∷ (behind ++ others)) n) (sym (length_cut limits outer cuts cut))
    ∙ slice_at before file (behind ++ others)

-- where the limit comes in it
pub limit_there : (limits : Limits) (f : Frame) (outer : List Frame) (m : ℕ) (cuts : List ℕ) (others : List (Option File)) → AreCut outer cuts
    → limit_at (files_cut limits (f ∷ outer) (m ∷ cuts) ++ others) (length (parts_of outer)) ≡ limit_within f.part.bytes m
limit_there limits f outer m cuts others cut =
    ap (λ (o : Option (Option File)). option_and_then (option_and_then (λ (x : File). x.limit)) o) (file_there limits f outer m cuts others cut)

-- the innermost file by the open lists
pub innermost_is : (n : ℕ) (outer : List Frame) (around : List Of) → 0 < n → number_in (lists_onto n outer around) ≡ length (parts_of outer)
innermost_is zero outer around some = absurd (omega arith)
innermost_is (suc zero) [] around some = refl
innermost_is (suc zero) (g ∷ outer) around some = refl
innermost_is (suc (suc n)) outer around some = innermost_is (suc n) outer around (omega arith)

-- each file has an open list
abbrev pub AllOpen : List Frame → Type 0
AllOpen [] = Unit {0}
AllOpen (f ∷ outer) = (0 < f.lists) × AllOpen outer

-- all files that are read by the open lists
numbers_onto : (n : ℕ) (outer : List Frame) (around : List Of) → 0 < n → numbers_in (lists_onto n outer around) ≡ numbers_in (list_of outer ∷ around)
numbers_onto zero outer around some = absurd (omega arith)
numbers_onto (suc zero) outer around some = refl
numbers_onto (suc (suc n)) outer around some = numbers_onto (suc n) outer around (omega arith)

pub numbers_are : (f : Frame) (outer : List Frame) → AllOpen (f ∷ outer) → numbers_in (lists_open (f ∷ outer)) ≡ numbers_of (f ∷ outer)
numbers_are f [] opens = numbers_onto f.lists [] [] opens.0
numbers_are f (g ∷ outer) opens =
    numbers_onto f.lists (g ∷ outer) (lists_open (g ∷ outer)) opens.0 ∙ ap (λ (l : List ℕ). length (parts_of (g ∷ outer)) ∷ l) (numbers_are g outer opens.1)

-- an event opens and closes lists as the loader has it
not_end : (leaf : Leaf) (offset : ℕ) → pull.Event (event_of leaf) ≡ pull.Event (event.DocumentEnd offset) → ⊥
not_end (Chars at text) offset h = cc
not_end (CData at text) offset h = cc
not_end (Comment at text) offset h = cc
not_end (Pi at target text) offset h = cc

not_start : (e : tree.Element) (kids : Forest) (offset : ℕ) → start_pulled e kids ≡ pull.Event (event.DocumentEnd offset) → ⊥
not_start e (End mark at) offset h = cc
not_start e (Cut Need) offset h = cc
not_start e (Cut (Bad fault)) offset h = cc
not_start e (Single mark leaf next) offset h = cc
not_start e (Nested stage inner kids next) offset h = cc

-- a document ends where its own list alone is open
pub document_one : (offset : ℕ) (f : Future) → pulled f ≡ pull.Event (event.DocumentEnd offset) → length f ≡ 1
document_one offset [] h = cc
document_one offset (End mark at ∷ []) h = refl
document_one offset (End mark at ∷ list ∷ lists) h = cc
document_one offset (Cut Need ∷ lists) h = cc
document_one offset (Cut (Bad fault) ∷ lists) h = cc
document_one offset (Single mark leaf next ∷ lists) h = absurd (not_end leaf offset h)
document_one offset (Nested stage e kids next ∷ lists) h = absurd (not_start e kids offset h)

-- an element ends within a list
no_leaf_ends : (leaf : Leaf) (offset : ℕ) → pull.Event (event_of leaf) ≡ pull.Event (event.End offset) → ⊥
no_leaf_ends (Chars at text) offset h = cc
no_leaf_ends (CData at text) offset h = cc
no_leaf_ends (Comment at text) offset h = cc
no_leaf_ends (Pi at target text) offset h = cc

no_start_ends : (e : tree.Element) (kids : Forest) (offset : ℕ) → start_pulled e kids ≡ pull.Event (event.End offset) → ⊥
no_start_ends e (End mark at) offset h = cc
no_start_ends e (Cut Need) offset h = cc
no_start_ends e (Cut (Bad fault)) offset h = cc
no_start_ends e (Single mark leaf next) offset h = cc
no_start_ends e (Nested stage inner kids next) offset h = cc

pub end_two : (offset : ℕ) (f : Future) → pulled f ≡ pull.Event (event.End offset) → 1 < length f
end_two offset [] h = cc
end_two offset (End mark at ∷ []) h = cc
end_two offset (End mark at ∷ list ∷ lists) h = omega arith
end_two offset (Cut Need ∷ lists) h = cc
end_two offset (Cut (Bad fault) ∷ lists) h = cc
end_two offset (Single mark leaf next ∷ lists) h = absurd (no_leaf_ends leaf offset h)
end_two offset (Nested stage e kids next ∷ lists) h = absurd (no_start_ends e kids offset h)

-- the open lists behind an event are those that the reader counts
pub lists_then : (e : Event) (n : ℕ) (outer : List Frame) (around : List Of) → 0 < n → ((offset : ℕ) → e ≡ event.DocumentEnd offset → n ≡ 1) → lists_behind e (lists_onto n outer around) ≡ lists_onto (count_behind e n) outer around
lists_then e zero outer around some one = absurd (omega arith)
lists_then (event.Start offset name attrs decls first) (suc n) outer around some one = refl
lists_then (event.End offset) (suc zero) outer around some one = refl
lists_then (event.End offset) (suc (suc n)) outer around some one = let e : suc n ≡ suc (suc n) - 1 = omega arith in ap (λ (k : ℕ). lists_onto k outer around) e
lists_then (event.DocumentEnd offset) (suc zero) outer around some one = refl
lists_then (event.DocumentEnd offset) (suc (suc n)) outer around some one = let h : suc (suc n) ≡ 1 = one offset refl in absurd (omega arith)
lists_then (event.Chars offset text) (suc n) outer around some one = refl
lists_then (event.CData offset text) (suc n) outer around some one = refl
lists_then (event.Comment offset text) (suc n) outer around some one = refl
lists_then (event.Pi offset target text) (suc n) outer around some one = refl
