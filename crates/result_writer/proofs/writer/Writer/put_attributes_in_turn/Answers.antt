use Rattle.std.proofs.Common.{[], map, refl, ap, sym, ◌∙◌, append-nil}
use Rattle.result_writer.specs.Nodes.{attribute_part, attributes_fault}
use Rattle.result_writer.specs.Target.{Target, left_by}
use Rattle.result_writer.proofs.InTurn.{is_nothing}
use Rattle.result_writer.proofs.Together.{fault-together}
use Rattle.result_writer.proofs.writer.Writer.put_attributes_in_turn.Goals as goal

pub returns-then-is_none : goal.returns-then-is_none
returns-then-is_none c =
    let old = c.args.self.now in
    let bare = (c.takes_at_once.ensures c.if-takes_at_once.true).bare in
    record {
      taken = map attribute_part c.args.attrs;
      rest = [];
      whole = sym (append-nil (map attribute_part c.args.attrs));
      allowed =
          fault-together old.limit old.left bare.0 c.args.attrs (ap (λ (t : Target). t.left.held) (sym c.self.view_is) ∙ bare.1) ∙ ap attributes_fault (sym c.as_slice-lent.ensures) ∙ sym c.attributes_fault.ensures
          ∙ is_nothing c.attributes_fault.result _ c.is_none.ensures c.if-is_none.true;
      left = c.add_attributes.ensures ∙ ap (λ (t : Target). record t { left = left_by t.left (map attribute_part c.args.attrs) }) c.self.view_is;
      all = refl;
      refused = tt;
    }
