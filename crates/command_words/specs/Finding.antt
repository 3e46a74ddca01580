-- What clap finds for the command line, and what it tells of what is said.
use Rattle.std.specs.Prelude.{◌≡◌, true, map, List, [], ◌∷◌, ◌++◌, Option, Some, None, unwrap_or, if◌then◌else◌, codes}
use Rattle.std.specs.Borrow.{Bor}
use Rattle.std.specs.Str.{bytes_eq}
use Rattle.std.specs.declared.result.Result.{Result}
use Rattle.std.specs.declared.result.Result.TheVariants.{Ok, Err}
use Rattle.clap.specs.Matches.{found_of}
use Rattle.clap.specs.Simple.{App, new_rule, new_shape}
use Rattle.clap.specs.Walk.{Row, Rule, all_of, rows_of}
use Rattle.clap.specs.declared.builder.action.ArgAction.TheVariants.{Append}
use Rattle.clap.specs.declared.parser.matches.ArgMatches.{ArgMatches}
use Rattle.command_words.specs.Said.{Said, free, check, number, Word, name_of, said_from}
use Rattle.command_words.specs.declared.fault.WordsFault.{WordsFault}
use Rattle.command_words.specs.declared.fault.WordsFault.TheVariants.{Usage, Memory}

-- an option that takes a value, at each use
abbrev pub option_rule : Word → Rule
option_rule name = record (new_rule name) { long = Some name; action = Some Append }

abbrev pub check_rule : Rule
check_rule = record (new_rule (codes "check")) {
  long = Some (codes "check");
  action = Some Append;
  range = Some (record { start_inclusive = 0; end_inclusive = 0 });
  missing = codes "yes" ∷ [];
}

abbrev pub operands_rule : Rule
operands_rule = record (new_rule (codes "operands")) { action = Some Append }

-- the command line
abbrev pub command_line : App
command_line = record {
  top = record (new_shape (codes "stx")) {
    rules = option_rule (codes "fuel") ∷ option_rule (codes "lexeme") ∷ option_rule (codes "instances")
        ∷ option_rule (codes "sample") ∷ check_rule ∷ operands_rule ∷ [];
    no_binary_name = true;
    disable_help_flag = true;
  };
  subs = [];
}

-- the argument under which a thing that is said is found, and with which value
abbrev pub id_of : Said → Word
id_of (free word) = codes "operands"
id_of check = codes "check"
id_of (number o value) = name_of o

abbrev pub value_of : Said → Word
value_of (free word) = word
value_of check = codes "yes"
value_of (number o value) = value

-- the values of an argument, by what is said
abbrev pub given : Word → List Said → List Word
given id [] = []
given id (thing ∷ said) = (if bytes_eq (id_of thing) id then value_of thing ∷ [] else []) ++ given id said

-- the values of an argument, by what is found
abbrev pub uses_of : Word → List Row → List Word
uses_of id rows = unwrap_or (all_of id rows) []

-- the same, as they are lent
abbrev pub words_in : Option (Bor (List (Bor Word))) → List Word
words_in None = []
words_in (Some uses) = map (λ word. word.now) uses.now

-- what is found tells what is said
abbrev pub Tells : List Row → List Said → Type 0
Tells rows said = (id : Word) → uses_of id rows ≡ given id said

-- what is found where the words can be read, and a refusal where they can't
abbrev pub Finds : List Word → Result ArgMatches WordsFault → Type 0
Finds words (Ok matches) = (said : List Said) × ((said_from None words ≡ Some said) × Tells (rows_of (found_of matches)) said)
Finds words (Err Usage) = said_from None words ≡ None
Finds words (Err Memory) = Unit {0}
