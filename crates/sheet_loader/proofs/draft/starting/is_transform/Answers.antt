use Rattle.std.proofs.Common.{◌≡◌, ap, ◌∙◌, sym, false, true, ◌&&◌, List, ℕ}
use Rattle.std.specs.Option.{option_map_or}
use Rattle.sheet_loader.specs.Elements.{is_transform, kind_named}
use Rattle.sheet_loader.specs.Judging.{is_stx}
use Rattle.sheet_loader.proofs.draft.starting.is_transform.Goals as goal

pub returns-then-is_stx : goal.returns-then-is_stx
returns-then-is_stx c =
    let n = c.args.name.now in
    let h : is_stx n ≡ true = cc in
    c.names_transform.ensures
    ∙ ap (λ (l : List ℕ). option_map_or is_transform (kind_named l) false) c.as_str.ensures.chars
    ∙ ap (λ b. b && option_map_or is_transform (kind_named n.local) false) (sym h)

pub returns-else-is_stx : goal.returns-else-is_stx
returns-else-is_stx c =
    let n = c.args.name.now in
    let h : is_stx n ≡ false = cc in
    ap (λ b. b && option_map_or is_transform (kind_named n.local) false) (sym h)
