-- Which version of the language a file is of: that of its root.
use Rattle.std.specs.Prelude.{ℕ, Bool, true, false, List, [], ◌∷◌, Option, Some, None, codes}
use Rattle.stx_base.specs.declared.name.Attr.{Attr}
use Rattle.stxpath_syntax.specs.declared.dialect.Dialect.{Dialect}
use Rattle.stxpath_syntax.specs.declared.dialect.Dialect.TheVariants.{One, OneOne}
use Rattle.xml_events.specs.Tree.{Forest, End, Cut, Single, Nested}
use Rattle.sheet_loader.specs.Elements.{lookup}
use Rattle.sheet_loader.specs.Tags.{text_at}

-- The versions that there are, by their names, and the newest of them.
pub record Language : Type 0 where
  pub versions : List (List ℕ × Dialect)
  pub newest : Dialect

abbrev pub language : Language
language = record { versions = (codes "1.0", One) ∷ (codes "1.1", OneOne) ∷ []; newest = OneOne }

-- the language before version 1.1
abbrev pub old_language : Language
old_language = record { versions = (codes "1.0", One) ∷ []; newest = One }

-- how a file is read, and whether its root names a version that there is
pub record Version : Type 0 where
  pub dialect : Dialect
  pub is_known : Bool

-- a file whose root names none that there is has what the newest has
abbrev pub version_by : Language → Option Dialect → Version
version_by among (Some dialect) = record { dialect = dialect; is_known = true }
version_by among None = record { dialect = among.newest; is_known = false }

abbrev pub version_named : Language → Option (List ℕ) → Version
version_named among None = version_by among None
version_named among (Some text) = version_by among (lookup among.versions text)

-- the attributes of the root of a file, where it is known
abbrev pub root_attrs : Forest → Option (List Attr)
root_attrs (End mark offset) = None
root_attrs (Cut why) = None
root_attrs (Single mark leaf next) = root_attrs next
root_attrs (Nested stage e kids next) = Some e.attrs

abbrev pub version_by_root : Language → Option (List Attr) → Version
version_by_root among None = record { dialect = One; is_known = false }
version_by_root among (Some attrs) = version_named among (text_at attrs (codes "version"))

abbrev pub version_of : Language → Forest → Version
version_of among nodes = version_by_root among (root_attrs nodes)
