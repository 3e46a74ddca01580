-- Names that lie one behind another.
use Rattle.std.specs.Prelude.{◌≡◌, ◌≤◌, ℕ, List, [], ◌∷◌, length, take, drop, string_bytes}
use Rattle.std.specs.Str.{chars, IsUtf8}
use Rattle.xml_events.specs.declared.texts.Texts.TheInside.{Inside}

-- texts of so many bytes each, one behind another
abbrev pub cut_texts : (lens bytes : List ℕ) → List (List ℕ)
cut_texts [] bytes = []
cut_texts (n ∷ ns) bytes = chars (take n bytes) ∷ cut_texts ns (drop n bytes)

-- the bytes are such texts
abbrev pub AreTexts : (lens bytes : List ℕ) → Type 0
AreTexts [] bytes = bytes ≡ []
AreTexts (n ∷ ns) bytes = (n ≤ length bytes) × IsUtf8 (take n bytes) × AreTexts ns (drop n bytes)

abbrev pub texts_in : Inside → List (List ℕ)
texts_in x = cut_texts x.lens.items (string_bytes x.text)

abbrev pub HoldsTexts : Inside → Type 0
HoldsTexts x = AreTexts x.lens.items (string_bytes x.text)
