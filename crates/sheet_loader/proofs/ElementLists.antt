-- The list of an element of the language, by its kind.
use Rattle.std.proofs.Common.{◌≡◌, ℕ, ◌≤◌, Bool, true, false, ◌||◌, List, [], ◌∷◌, ◌++◌, length, take, Option, refl, ap, sym, ◌∙◌, arith, if◌then◌else◌}
use Rattle.std.proofs.Math.Seq.{take-append_seam, take-length}
use Rattle.std.proofs.lemmas.List.{length-append}
use Rattle.stx_base.specs.declared.name.Name.{Name}
use Rattle.sheet_model.specs.Names.{is_among, is_same}
use Rattle.xml_events.specs.Tree.{Element, Future}
use Rattle.sheet_loader.proofs.Behind.{same_behind}
use Rattle.sheet_loader.proofs.KnownLemmas.{among-with}
use Rattle.sheet_loader.specs.Elements as element
use Rattle.sheet_loader.specs.Elements.{Before, Inside, Document, Declarations, Start_of_body, Body, Branches, With_params, Characters, Parts, Nothing, Kind, inside_of, is_allowed, is_include, is_own, makes_group}
use Rattle.sheet_loader.specs.Events.{Kept}
use Rattle.sheet_loader.specs.Keys.{with_name}
use Rattle.sheet_loader.specs.Known.{Known, within_loop}
use Rattle.sheet_loader.specs.Making.{Values, bare, behind, name, pass_or}
use Rattle.sheet_loader.specs.Read.{has_select, own_locals, pass_within, within}
use Rattle.sheet_loader.specs.Reading.{Context, File, Item, Loading}
use Rattle.sheet_loader.specs.Resuming.{Of_element, Open, resume}
use Rattle.sheet_loader.specs.Sound.{is_of_parts, is_outside}
use Rattle.sheet_loader.specs.Values.{Reads}

-- what the list may hold, by what is kept of the values
pub inside_kept : (i : Inside) (items : List Item) (kind : Kind) (v kept : Values) → Kept kind v kept → inside_of (behind i items) kind (has_select v) ≡ inside_of i kind (has_select kept)
inside_kept i items element.Transform v kept k = ap (λ b. Declarations b) (same_behind is_own refl items i)
inside_kept i items element.Group v kept k = refl
inside_kept i items element.Include v kept k = refl
inside_kept i items other v kept k = ap (λ w. inside_of i other (has_select w)) (sym k)

pub pass_kept : (here : Context) (kind : Kind) (v kept : Values) → Kept kind v kept → pass_within here kind kept ≡ pass_within here kind v
pass_kept here element.Transform v kept k = ap (pass_or here.pass) k
pass_kept here element.Group v kept k = ap (pass_or here.pass) k
pass_kept here element.Include v kept k = refl
pass_kept here other v kept k = ap (pass_within here other) k

pub locals_kept : (kind : Kind) (v kept : Values) → Kept kind v kept → own_locals kind kept ≡ own_locals kind v
locals_kept element.Transform v kept k = refl
locals_kept element.Group v kept k = refl
locals_kept element.Include v kept k = refl
locals_kept other v kept k = ap (own_locals other) k

-- all values are kept but for groups and includes
pub all_kept : (kind : Kind) (v kept : Values) → Kept kind v kept → (makes_group kind || is_include kind) ≡ false → kept ≡ v
all_kept element.Transform v kept k e = cc
all_kept element.Group v kept k e = cc
all_kept element.Include v kept k e = cc
all_kept other v kept k e = k

-- what is kept of the values is all that counts from then on
pub reopened : (reads : Reads) (files : List (Option File)) (here : Context) (before : List Item) (e : Element) (kind : Kind) (v kept : Values) (last : ℕ) (opens : List Open) (l : Loading) (f : Future) → Kept kind v kept
    → resume reads files (within here before kind e kept last) [] l (Of_element here before e kind kept ∷ opens) f ≡ resume reads files (within here before kind e v last) [] l (Of_element here before e kind v ∷ opens) f
reopened reads files here before e element.Transform v kept last opens l f k =
    ap (λ x. resume reads files (record (within here before element.Transform e v last) { pass = pass_or here.pass x }) [] l (Of_element here before e element.Transform v ∷ opens) f) k
reopened reads files here before e element.Group v kept last opens l f k =
    ap (λ x. resume reads files (record (within here before element.Group e v last) { pass = pass_or here.pass x }) [] l (Of_element here before e element.Group v ∷ opens) f) k
reopened reads files here before e element.Include v kept last opens l f k = refl
reopened reads files here before e other v kept last opens l f k =
    ap (λ w. resume reads files (within here before other e w last) [] l (Of_element here before e other w ∷ opens) f) k

-- no element of the language stands in a buffer's content
pub allowed_apart : (i : Inside) (b : Before) (kind : Kind) → is_allowed i b kind ≡ true → is_of_parts i ≡ false
allowed_apart (Document c) b kind e = refl
allowed_apart (Declarations c) b kind e = refl
allowed_apart Start_of_body b kind e = refl
allowed_apart Body b kind e = refl
allowed_apart Branches b kind e = refl
allowed_apart With_params b kind e = refl
allowed_apart (Characters c) b kind e = cc
allowed_apart Parts b kind e = cc
allowed_apart Nothing b kind e = refl

-- the locals behind a loop's start
pub loop_locals : (kind : Kind) (k : Known) (v : Values) (n : Name) → is_among (within_loop kind (bare (name v)) k).locals n ≡ (is_among k.locals n || is_among (own_locals kind v) n)
loop_locals element.ForEachItem k v n = among-with k.locals (bare (name v)) n ∙ ap (λ b. is_among k.locals n || b) (sym (or_false (is_same (name v) n))) where
  or_false : (b : Bool) → (b || false) ≡ b
  or_false true = refl
  or_false false = refl
loop_locals other k v n = sym (or_false (is_among k.locals n)) where
  or_false : (b : Bool) → (b || false) ≡ b
  or_false true = refl
  or_false false = refl

among_append : (xs ys : List Name) (n : Name) → is_among (xs ++ ys) n ≡ (is_among xs n || is_among ys n)
among_append [] ys n = refl
among_append (x ∷ xs) ys n = ap (λ b. is_same x n || b) (among_append xs ys n) ∙ or_assoc (is_same x n) (is_among xs n) (is_among ys n) where
  or_assoc : (a b c : Bool) → (a || (b || c)) ≡ ((a || b) || c)
  or_assoc true b c = refl
  or_assoc false b c = refl

pub among_both : (xs ys : List Name) (n : Name) → is_among (xs ++ ys) n ≡ (is_among xs n || is_among ys n)
among_both = among_append

-- the first locals stay
pub with_name-first : (names : List Name) (n : Name) → take (length names) (with_name names n) ≡ names
with_name-first names n = of_among (is_among names n) where
  of_among : (b : Bool) → take (length names) (if b then names else names ++ n ∷ []) ≡ names
  of_among true = take-length names
  of_among false = take-append_seam names (n ∷ [])

pub with_name-longer : (names : List Name) (n : Name) → length names ≤ length (with_name names n)
with_name-longer names n = of_among (is_among names n) where
  of_among : (b : Bool) → length names ≤ length (if b then names else names ++ n ∷ [])
  of_among true = omega arith
  of_among false = let l = length-append names (n ∷ []) in omega (arith, l)

pub loop-first : (kind : Kind) (k : Known) (n : Name) → take (length k.locals) (within_loop kind n k).locals ≡ k.locals
loop-first element.ForEachItem k n = with_name-first k.locals n
loop-first other k n = take-length k.locals

pub loop-longer : (kind : Kind) (k : Known) (n : Name) → length k.locals ≤ length (within_loop kind n k).locals
loop-longer element.ForEachItem k n = with_name-longer k.locals n
loop-longer other k n = omega arith

-- only a body's loop brings a local into its list
pub outside_locals : (i : Inside) (kind : Kind) (v : Values) (s : Bool) → is_outside (inside_of i kind s) ≡ true → own_locals kind v ≡ []
outside_locals i element.ForEachItem v s o = cc
outside_locals i other v s o = refl

transform_around : (i : Inside) (b : Before) → is_allowed i b element.Transform ≡ true → is_outside i ≡ true
transform_around (Document c) b e = refl
transform_around (Declarations c) b e = refl
transform_around Start_of_body b e = cc
transform_around Body element.Something e = cc
transform_around Body element.After_if e = cc
transform_around Body element.After_otherwise e = cc
transform_around Branches element.Something e = cc
transform_around Branches element.After_if e = cc
transform_around Branches element.After_otherwise e = cc
transform_around With_params b e = cc
transform_around (Characters c) b e = cc
transform_around Parts b e = cc
transform_around Nothing b e = cc

group_around : (i : Inside) (b : Before) → is_allowed i b element.Group ≡ true → is_outside i ≡ true
group_around (Document c) b e = refl
group_around (Declarations c) b e = refl
group_around Start_of_body b e = cc
group_around Body element.Something e = cc
group_around Body element.After_if e = cc
group_around Body element.After_otherwise e = cc
group_around Branches element.Something e = cc
group_around Branches element.After_if e = cc
group_around Branches element.After_otherwise e = cc
group_around With_params b e = cc
group_around (Characters c) b e = cc
group_around Parts b e = cc
group_around Nothing b e = cc

buffer_around : (i : Inside) (b : Before) → is_allowed i b element.Buffer ≡ true → is_outside i ≡ true
buffer_around (Document c) b e = refl
buffer_around (Declarations c) b e = refl
buffer_around Start_of_body b e = cc
buffer_around Body element.Something e = cc
buffer_around Body element.After_if e = cc
buffer_around Body element.After_otherwise e = cc
buffer_around Branches element.Something e = cc
buffer_around Branches element.After_if e = cc
buffer_around Branches element.After_otherwise e = cc
buffer_around With_params b e = cc
buffer_around (Characters c) b e = cc
buffer_around Parts b e = cc
buffer_around Nothing b e = cc

-- lists of declarations, and a buffer's, stand among declarations
pub outside_around : (i : Inside) (b : Before) (kind : Kind) (s : Bool) → is_allowed i b kind ≡ true → is_outside (inside_of i kind s) ≡ true → is_outside i ≡ true
outside_around i b element.Transform s e o = transform_around i b e
outside_around i b element.Group s e o = group_around i b e
outside_around i b element.Buffer s e o = buffer_around i b e
outside_around i b element.Attribute true e o = cc
outside_around i b element.Attribute false e o = cc
outside_around i b element.Comment true e o = cc
outside_around i b element.Comment false e o = cc
outside_around i b element.Instruction true e o = cc
outside_around i b element.Instruction false e o = cc
outside_around i b element.Message true e o = cc
outside_around i b element.Message false e o = cc
outside_around i b other s e o = cc
