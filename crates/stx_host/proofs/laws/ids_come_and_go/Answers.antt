use Rattle.stx_host.proofs.OpenIds.{given_is_open, stays_open, given_back}
use Rattle.stx_host.proofs.laws.ids_come_and_go.Goals as goal

pub returns : goal.returns
returns c = record { given = given_is_open; stays = stays_open; back = given_back }
