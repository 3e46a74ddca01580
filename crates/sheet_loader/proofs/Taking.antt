-- A draft whose innermost list takes an item.
use Rattle.std.proofs.Common.{◌≡◌, ℕ, Bool, true, false, List, [], ◌∷◌, reverse, Option, refl, ap, sym, ◌∙◌, if◌then◌else◌}
use Rattle.std.proofs.Math.Path.{subst}
use Rattle.stxpath_syntax.specs.declared.dialect.Dialect.TheVariants.{One}
use Rattle.sheet_model.specs.Names.{is_among}
use Rattle.sheet_model.specs.declared.instr.Instr.TheVariants as instr
use Rattle.std.specs.List.{list_all}
use Rattle.sheet_loader.proofs.Adding.{fit_added, level_more, none_of, plain_given, plain_locals}
use Rattle.sheet_loader.specs.Drafts.{file_around, levels_in, levels_of, loading_of, parts_around}
use Rattle.sheet_loader.specs.Elements.{Inside, Document, Declarations, Start_of_body, Body, Branches, With_params, Characters, Parts, Nothing, allows_text}
use Rattle.std.specs.Option.{option_map}
use Rattle.xml_events.specs.Tree.{Future}
use Rattle.sheet_loader.specs.Events.{TakesItems, place_at}
use Rattle.sheet_loader.specs.Keys.{names_in}
use Rattle.sheet_loader.specs.Known.{known}
use Rattle.sheet_loader.specs.Making.{behind, is_a_param, local_of_item, values_of_item}
use Rattle.sheet_loader.specs.Meant.{inside_of, version_of}
use Rattle.sheet_loader.specs.Read.{text_item}
use Rattle.sheet_loader.specs.Reading as reading
use Rattle.sheet_loader.specs.Reading.{Context, File, place}
use Rattle.sheet_loader.specs.Remaining.{version_by}
use Rattle.sheet_loader.specs.Sound.{IsSound, is_of_parts, is_outside}
use Rattle.sheet_loader.specs.Steps.{AddsItem}
use Rattle.sheet_loader.specs.Values.{Reads}
use Rattle.sheet_loader.specs.declared.draft.Draft.{Draft}
use Rattle.sheet_loader.specs.declared.inside.Inside as own
use Rattle.sheet_loader.specs.declared.inside.Inside.TheVariants as inside

-- where a text may stand, no declarations do
pub text_inside : (i : Inside) → allows_text i ≡ true → is_of_parts i ≡ false → is_outside i ≡ false
text_inside (Document b) e a = cc
text_inside (Declarations b) e a = cc
text_inside Start_of_body e a = refl
text_inside Body e a = refl
text_inside Branches e a = refl
text_inside With_params e a = refl
text_inside (Characters b) e a = refl
text_inside Parts e a = cc
text_inside Nothing e a = refl

-- what a text comes to is the same behind items
pub text_item_behind : (reads : Reads) (files : List (Option File)) (here : Context) (offset : ℕ) (text : List ℕ) (i : Inside) (items : List reading.Item) → text_item reads files here offset text (behind i items) ≡ text_item reads files here offset text i
text_item_behind reads files here offset text Start_of_body items = of_body (list_all is_a_param items) where
  of_body : (b : Bool) → text_item reads files here offset text (if b then Start_of_body else Body) ≡ text_item reads files here offset text Start_of_body
  of_body true = refl
  of_body false = refl
text_item_behind reads files here offset text (Document b) items = refl
text_item_behind reads files here offset text (Declarations b) items = refl
text_item_behind reads files here offset text Body items = refl
text_item_behind reads files here offset text Branches items = refl
text_item_behind reads files here offset text With_params items = refl
text_item_behind reads files here offset text (Characters b) items = refl
text_item_behind reads files here offset text Parts items = refl
text_item_behind reads files here offset text Nothing items = refl

-- a list that holds no parts
pub other_inside : (i : own.Inside) → (i ≡ inside.Parts → ⊥) → is_of_parts (inside_of i) ≡ false
other_inside (inside.Document b) h = refl
other_inside (inside.Declarations b) h = refl
other_inside inside.StartOfBody h = refl
other_inside inside.Body h = refl
other_inside inside.Branches h = refl
other_inside inside.WithParams h = refl
other_inside (inside.Characters b) h = refl
other_inside inside.Parts h = absurd (h refl)
other_inside inside.Nothing h = refl

-- a text is an instruction where neither characters nor parts are held
pub other_item : (reads : Reads) (files : List (Option File)) (here : Context) (offset : ℕ) (text : List ℕ) (i : own.Inside) → ((b : Bool) → i ≡ inside.Characters b → ⊥) → (i ≡ inside.Parts → ⊥)
    → text_item reads files here offset text (inside_of i) ≡ reading.Instruction (instr.LiteralChars text (place here offset)) ∷ []
other_item reads files here offset text (inside.Document b) h g = refl
other_item reads files here offset text (inside.Declarations b) h g = refl
other_item reads files here offset text inside.StartOfBody h g = refl
other_item reads files here offset text inside.Body h g = refl
other_item reads files here offset text inside.Branches h g = refl
other_item reads files here offset text inside.WithParams h g = refl
other_item reads files here offset text (inside.Characters b) h g = absurd (h b refl)
other_item reads files here offset text inside.Parts h g = absurd (g refl)
other_item reads files here offset text inside.Nothing h g = refl

-- what a text comes to, by what the frame of the list says that it may hold
pub is_item : (d : Draft) → IsSound d → (reads : Reads) (files : List (Option File)) (f : Future) (offset : ℕ) (text : List ℕ)
    → text_item reads files (place_at files f d).here offset text (place_at files f d).here.inside ≡ text_item reads files (place_at files f d).here offset text (inside_of d.top.inside)
is_item d sound reads files f offset text =
    let p = place_at files f d in
    let h = sound.frames.0 (loading_of d).sheet.files files (version_by (option_map version_of d.file.version) f) in
    sym (text_item_behind reads files p.here offset text p.here.inside p.before) ∙ ap (text_item reads files p.here offset text) (sym h.inside)

-- the number of the file that is read
pub is_number : (d : Draft) → IsSound d → (files : List (Option File)) (f : Future) → (place_at files f d).here.file ≡ d.file.number
is_number d sound files f = sym (sound.frames.0 (loading_of d).sheet.files files (version_by (option_map version_of d.file.version) f)).number

module _ (old new : Draft) (x : reading.Item) (sound : IsSound old) (adds : AddsItem x old new) (plain : local_of_item x ≡ []) (gives : values_of_item x ≡ []) (inner : is_outside (inside_of old.top.inside) ≡ false) (apart : is_of_parts (inside_of old.top.inside) ≡ false) where
  abbrev after : Draft
  after = record old { top = record old.top { inside = new.top.inside; items = new.top.items; before = new.top.before } }

  sound_after : IsSound after
  sound_after = record {
    frames = fit_added old.top (reverse old.below.items) old.file old.parts (known old.register).locals (known old.register).locals x new.top.inside new.top.items new.top.before old.top.given
        sound.frames adds.inside adds.before adds.items
        (λ before g. plain_given (names_in old.top.given) before x gives g)
        (λ here before h n. h n ∙ ap (λ l. is_among l n) (sym (plain_locals here before x plain)))
        (sound.frames.0 [] [] (record { dialect = One; is_known = false })).brought refl inner apart;
    version = sound.version;
    declares = sound.declares;
    files = record { known = sound.files.known; kept = sound.files.kept };
  }

  pub sound_with : IsSound new
  sound_with = subst IsSound (sym adds.others) sound_after

  pub takes_with : TakesItems (x ∷ []) old new
  takes_with = record {
    levels = ap levels_of adds.others ∙ ap (λ l. l ∷ levels_in (reverse old.below.items) (file_around old.top.opened old.top.around old.file) (parts_around old.top.opened old.top.parts old.parts))
        (level_more old.top (reverse old.below.items) old.file old.parts (known old.register).locals (known old.register).locals x new.top.inside new.top.items new.top.before old.top.given adds.items
        (none_of old.top (reverse old.below.items) old.file old.parts (known old.register).locals sound.frames apart));
    loading = ap loading_of adds.others;
    version = ap (λ d. d.file.version) adds.others;
  }
