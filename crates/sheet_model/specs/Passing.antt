-- What a group passes through.
use Rattle.std.specs.Prelude.{true, false}
use Rattle.sheet_model.specs.declared.pass.Kinds.{Kinds}
use Rattle.sheet_model.specs.declared.pass.Pass.{Pass}
use Rattle.sheet_model.specs.declared.pass.Pass.TheVariants as pass

abbrev pub no_kind : Kinds
no_kind = record { elements = false; text = false; cdata = false; comments = false; instructions = false; attributes = false }

abbrev pub all_kinds : Kinds
all_kinds = record { elements = true; text = true; cdata = true; comments = true; instructions = true; attributes = true }

-- the kinds of nodes that are passed through; text covers CDATA nodes
abbrev pub kinds : Pass → Kinds
kinds pass.None = no_kind
kinds pass.Chars = record no_kind { text = true }
kinds pass.All = all_kinds
kinds (pass.Kinds k) = k
