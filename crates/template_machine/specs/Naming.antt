-- For what a name is computed.
use Rattle.std.specs.Prelude.{Bool, true, false}
use Rattle.template_machine.specs.declared.names.Bare.{Bare}
use Rattle.template_machine.specs.declared.names.Bare.TheVariants.{InDefault, InNone}

-- without a prefix it is in the default namespace
abbrev pub is_element_name : Bare → Bool
is_element_name InDefault = true
is_element_name InNone = false
