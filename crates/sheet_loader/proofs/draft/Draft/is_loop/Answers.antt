-- Only an include may be of a file that is being read.
use Rattle.std.proofs.Common.{◌≡◌, false, codes, refl, ap, sym, ◌∙◌}
use Rattle.std.proofs.Math.Path.{subst}
use Rattle.std.specs.Option.{option_map}
use Rattle.sheet_loader.proofs.Numbers.{is_read}
use Rattle.sheet_loader.specs.Drafts.{before_tag, frames_of}
use Rattle.sheet_loader.specs.Events.{place_at, wanted_by}
use Rattle.sheet_loader.specs.Gathering.{values_in}
use Rattle.sheet_loader.specs.Judging.{is_loop}
use Rattle.sheet_loader.specs.Known.{known}
use Rattle.sheet_loader.specs.Making.{Values, as_word, value_at}
use Rattle.sheet_loader.specs.Meant.{kind_of, version_of}
use Rattle.sheet_loader.specs.Named.{IsApart, is_being_read, names_of}
use Rattle.sheet_loader.specs.Reading.{Context}
use Rattle.sheet_loader.specs.Remaining.{version_by}
use Rattle.sheet_loader.specs.declared.draft.Draft.{Draft}
use Rattle.sheet_loader.specs.declared.kind.Kind.{Kind}
use Rattle.sheet_loader.specs.declared.kind.Kind.TheVariants as kind
use Rattle.sheet_loader.proofs.draft.Draft.is_loop.Goals as goal

none_of_others : (here : Context) (k : Kind) (v : Values) → (k ≡ kind.Include → ⊥) → is_loop here (kind_of k) v ≡ false
none_of_others here kind.Include v h = absurd (h refl)
none_of_others here other v h = refl

not_wanted : (k : Kind) (v : Values) (d : Draft) → (k ≡ kind.Include → ⊥) → IsApart (wanted_by (kind_of k) v) d
not_wanted kind.Include v d h = absurd (h refl)
not_wanted other v d h = tt

pub returns-in-Include-clause-apart : goal.returns-in-Include-clause-apart
returns-in-Include-clause-apart c = λ e.
    let d = c.args.self.now in
    subst (λ (k : Kind). IsApart (wanted_by (kind_of k) (values_in c.args.values.now)) d) (sym c.in-Include.is)
    (ap (is_being_read d) (sym c.href.ensures) ∙ sym c.is_read.ensures ∙ e)

pub returns-in-Include-clause-looped : goal.returns-in-Include-clause-looped
returns-in-Include-clause-looped c = λ around files f sound.
    let d = before_tag c.args.self.now around in
    let here = (place_at files f d).here in
    c.is_read.ensures
    ∙ ap (is_being_read d) c.href.ensures
    ∙ sym (is_read (frames_of d) d.file d.parts (known d.register).locals sound.frames (names_of d) d.reading.keys d.own sound.files.kept files (version_by (option_map version_of d.file.version) f) (as_word (value_at (codes "href") (values_in c.args.values.now))))
    ∙ ap (λ (k : Kind). is_loop here (kind_of k) (values_in c.args.values.now)) (sym c.in-Include.is)

pub returns-in_default-clause-apart : goal.returns-in_default-clause-apart
returns-in_default-clause-apart c = λ e. not_wanted c.args.kind (values_in c.args.values.now) c.args.self.now c.in_default.not-Include

pub returns-in_default-clause-looped : goal.returns-in_default-clause-looped
returns-in_default-clause-looped c = λ around files f sound. sym (none_of_others (place_at files f (before_tag c.args.self.now around)).here c.args.kind (values_in c.args.values.now) c.in_default.not-Include)
