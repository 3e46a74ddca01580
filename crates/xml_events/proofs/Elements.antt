-- Elements begin and end.
use Rattle.std.proofs.Common.{◌≡◌, ℕ, ◌+◌, ◌<◌, Bool, true, false, List, [], ◌∷◌, ◌++◌, Option, Some, None, length, length-append, reverse, ap, ◌∙◌, arith, subst, sym}
use Rattle.std.specs.Prelude.{nat_le, if◌then◌else◌}
use Rattle.std.specs.List.{list_all}
use Rattle.std.specs.Option.{option_or}
use Rattle.std.proofs.lemmas.Bool.Decides.{nat_tests}
use Rattle.std.proofs.lemmas.List.{length-reverse}
use Rattle.stx_base.specs.Character.{is_name}
use Rattle.stx_base.specs.declared.fault.XmlKind.{XmlKind}
use Rattle.stx_base.specs.declared.fault.XmlKind.TheVariants.{Mismatch, TooDeep}
use Rattle.stx_base.specs.declared.limits.Limits.{Limits}
use Rattle.xml_tokens.specs.declared.lexeme.Body.TheVariants as body
use Rattle.xml_tokens.specs.declared.lexeme.RawAttr.{RawAttr}
use Rattle.xml_names.specs.Tag.{declarations, into, name_fault, resolved}
use Rattle.xml_names.specs.declared.resolved.Resolved.{Resolved}
use Rattle.xml_events.specs.Before.{is_full, is_innermost}
use Rattle.xml_events.specs.Document.{Opens, element_at}
use Rattle.xml_events.specs.inside.Taking.{before_of, names_of, IsClosed, IsFit, Takes, TakesFitting}
use Rattle.xml_events.specs.declared.place.Place.{Place}
use Rattle.xml_events.specs.declared.place.Word.TheVariants as word
use Rattle.xml_events.proofs.Names.{faultless-named, named-more, reverse-last}

-- to close the innermost element takes the end tag of its name
pub closed-takes : (old new : Place) (name : List ℕ) → is_innermost name (names_of old) ≡ true → IsClosed old new → Takes old (body.End name) new word.Close
closed-takes old new name innermost closed = record {
  sound = ap (λ t. if t then None else Some Mismatch) innermost;
  before = closed.before;
  items_are = closed.items_are;
  fit = closed.fit;
}

fewer : (n m : ℕ) → nat_le n m ≡ false → m < n
fewer n m h = grind (arith, nat_tests)

abbrev deep_if : Bool → Option XmlKind
deep_if t = if t then Some TooDeep else None

-- a start tag is taken where it has no fault and room is left
module _ (old new : Place) (name : List ℕ) (attrs : List RawAttr) (tag : Resolved) (faultless : name_fault old.scopes name attrs ≡ None) (room : is_full old.limits (before_of old) ≡ false)
    (tag_is : tag ≡ resolved old.scopes name attrs) (names : new.names ≡ old.names ++ name ∷ []) (scopes : new.scopes ≡ into old.scopes attrs) (limits : new.limits ≡ old.limits)
    (rooted : new.rooted ≡ true) (typed : new.typed ≡ old.typed) (chars : new.chars ≡ 0) (cdata : new.cdata ≡ old.cdata) (fit : IsFit old) where
  opened_fit : IsFit new
  opened_fit =
      let n : length new.names ≡ length old.names + 1 = ap length names ∙ length-append old.names (name ∷ []) in
      let s : length new.scopes ≡ length old.scopes + 1 = ap length scopes ∙ length-append old.scopes (declarations attrs ∷ []) in
      let few = fewer old.limits.depth (length (names_of old)) room in
      record {
        paired = omega (arith, n, s, fit.paired);
        depth = omega (arith, n, few, length-reverse old.names, ap (λ (m : Limits). m.depth) limits);
        named = ap (list_all is_name) names ∙ named-more old.names name fit.named (faultless-named old.scopes name attrs faultless);
      }

  whole : TakesFitting old (body.Start name attrs false) new (word.Open tag)
  whole = record {
    sound = ap (λ f. option_or f (deep_if (is_full old.limits (before_of old)))) faultless ∙ ap deep_if room;
    before =
        ap (λ (l : List (List ℕ)). record (before_of new) { names = l }) (ap reverse names ∙ reverse-last old.names name)
        ∙ (ap (λ p. record (before_of new) { names = name ∷ names_of old; path = p }) scopes
        ∙ (ap (λ r. record (before_of new) { names = name ∷ names_of old; path = into old.scopes attrs; rooted = r }) rooted
        ∙ (ap (λ t. record (before_of new) { names = name ∷ names_of old; path = into old.scopes attrs; rooted = true; typed = t }) typed
        ∙ (ap (λ c. record (before_of new) { names = name ∷ names_of old; path = into old.scopes attrs; rooted = true; typed = old.typed; chars = c }) chars
        ∙ ap (λ k. record (before_of old) { names = name ∷ names_of old; path = into old.scopes attrs; rooted = true; chars = 0; cdata = k }) cdata))));
    items_are = λ offset. ap (λ t. Opens (element_at offset t) ∷ []) tag_is;
    fit = opened_fit;
  }

  pub opened : (empty : Bool) → empty ≡ false → TakesFitting old (body.Start name attrs empty) new (word.Open tag)
  opened empty h = subst (λ e. TakesFitting old (body.Start name attrs e) new (word.Open tag)) (sym h) whole
