-- What the fields of an environment mean.
use Rattle.std.specs.Prelude.{List, Option}
use Rattle.stx_base.specs.declared.name.Name.{Name}
use Rattle.node_stack.specs.Stack.{path}
use Rattle.node_stack.specs.declared.stack.NodeStack.{NodeStack}
use Rattle.stxpath_eval.specs.Setting.{Setting}
use Rattle.stxpath_eval.specs.declared.env.Env.{Env}
use Rattle.stxpath_values.specs.declared.value.Atom.{Atom}

abbrev pub setting : {V : Type 0} → (V → Name → Option (List Atom)) → NodeStack → Env V → Setting
setting vars stack env = record { vars = vars env.vars.now; limits = env.limits.now; path = path stack; place = env.place; test = env.test.now }
