-- The limits that apply where no option names another.
use Rattle.stx_base.specs.declared.limits.Limits.{Limits}

abbrev pub standard_limits : Limits
standard_limits = record {
  lexeme = 67108864;
  text = 67108864;
  depth = 512;
  instances = 256;
  sequence = 1000000;
  buffer = 67108864;
  elements = 4096;
  sources = 16;
  input = 1125899906842624;
  sheet = 16777216;
  fuel = 1000000;
}
