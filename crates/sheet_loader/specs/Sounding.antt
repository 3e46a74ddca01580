-- That a sheet that is loaded is sound, and what of its files makes it so.
use Rattle.std.specs.Prelude.{◌≡◌, ◌≤◌, ℕ, zero, suc, Bool, true, ◌&&◌, List, Ok}
use Rattle.std.specs.List.{list_all}
use Rattle.stx_base.specs.declared.limits.Limits.{Limits}
use Rattle.stx_base.specs.declared.name.Attr.{Attr}
use Rattle.result_writer.specs.Allowed.{are_chars, is_good_attribute, is_good_name}
use Rattle.sheet_model.specs.Sound.{IsSmall, IsSound}
use Rattle.sheet_model.specs.declared.sheet.Sheet.{Sheet}
use Rattle.xml_events.specs.Tree.{Forest, Leaf, Chars, CData, Element, End, Cut, Single, Nested}
use Rattle.sheet_loader.specs.Files.{Documents, load}
use Rattle.sheet_loader.specs.Values.{Reads}

-- so many levels of elements stand in the list, or fewer
abbrev pub IsWithin : ℕ → Forest → Type 0
IsWithin levels (End mark offset) = Unit {0}
IsWithin levels (Cut why) = Unit {0}
IsWithin levels (Single mark leaf next) = IsWithin levels next
IsWithin zero (Nested stage e kids next) = ⊥
IsWithin (suc levels) (Nested stage e kids next) = IsWithin levels kids × IsWithin (suc levels) next

abbrev pub is_good_attr : Attr → Bool
is_good_attr a = is_good_attribute a.name && are_chars a.value

abbrev pub is_good_element : Element → Bool
is_good_element e = is_good_name e.name && list_all is_good_attr e.attrs

-- a text has characters that a result may have
abbrev pub is_good_text : Leaf → Bool
is_good_text (Chars offset text) = are_chars text
is_good_text (CData offset text) = are_chars text
is_good_text other = true

-- elements and texts have names and characters that a result may have
abbrev pub IsGood : Forest → Type 0
IsGood (End mark offset) = Unit {0}
IsGood (Cut why) = Unit {0}
IsGood (Single mark leaf next) = (is_good_text leaf ≡ true) × IsGood next
IsGood (Nested stage e kids next) = (is_good_element e ≡ true) × IsGood kids × IsGood next

-- A sheet that is loaded is sound, where no document may nest deeper than bodies, if it is small enough to be numbered.
abbrev pub LoadedIsSound : Type 0
LoadedIsSound =
    (reads : Reads) (limits : Limits) (docs : Documents) (name : List ℕ) (s : Sheet)
    → limits.depth ≤ 512
    → (load reads limits docs name).result ≡ Ok s
    → IsSmall s
    → IsSound s
