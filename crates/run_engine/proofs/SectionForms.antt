-- Only the shape of a CDATA section says one.
use Rattle.std.proofs.Common.{◌≡◌, ℕ, ◌-◌, suc, Bool, true, false, not, ◌&&◌, List, Option, Some, None, Result, Ok, Err, length, take, drop, refl, cond}
use Rattle.std.specs.Prelude.{codes, is_none, slice_get, if◌then◌else◌}
use Rattle.std.specs.List.{list_all, position_or_len}
use Rattle.std.specs.Option.{option_and_then, option_map, option_map_or}
use Rattle.std.specs.Result.{result_map_both}
use Rattle.std.specs.Str.{chars, is_utf8}
use Rattle.stx_base.specs.Character.{is_char, is_space}
use Rattle.stx_base.specs.declared.fault.XmlKind.{XmlKind}
use Rattle.stx_base.specs.declared.fault.XmlKind.TheVariants as kind
use Rattle.xml_tokens.specs.Places.{begins}
use Rattle.xml_tokens.specs.Shape.{form}
use Rattle.xml_tokens.specs.Texts.{lines, result_map, said}
use Rattle.xml_tokens.specs.Tags.{after_byte, after_space, attributes, attrs_said, end_tag, named, start_tag, tag}
use Rattle.xml_tokens.specs.Prolog.{declared, is_doctype, is_encoding, is_version}
use Rattle.xml_tokens.specs.Judged.{between, by_form, comment, declaration, doctype, holds, instruction, instruction_or_declaration, is_declaration, is_target, judged, kind_of, tag_or_fault, text}
use Rattle.xml_tokens.specs.declared.form.Form.{Form}
use Rattle.xml_tokens.specs.declared.form.Form.TheVariants as form
use Rattle.xml_tokens.specs.declared.lexeme.Body.{Body}
use Rattle.xml_tokens.specs.declared.lexeme.Body.TheVariants.{Chars, CData, Start, End, Comment, Pi, Doctype, Declaration}
use Rattle.xml_tokens.specs.declared.lexeme.RawAttr.{RawAttr}
use Rattle.xml_tokens.specs.declared.text.BadText.{BadText}
use Rattle.xml_tokens.specs.declared.text.Context.TheVariants.{Content}

module _ (section : List ℕ) where
  -- what is said is no section of this text
  abbrev Other : Result Body XmlKind → Type 0
  Other said = said ≡ Ok (CData section) → ⊥

  fault : (k : XmlKind) → Other (Err k)
  fault k e = cc

  either : (t : Bool) (a b : Result Body XmlKind) → Other a → Other b → Other (cond t a b)
  either true a b f g = f
  either false a b f g = g

  if_some : {A : Type 0} (f : A → Result Body XmlKind) (k : XmlKind) (o : Option A) → ((a : A) → Other (f a)) → Other (option_map_or f o (Err k))
  if_some f k None each = fault k
  if_some f k (Some a) each = each a

  text-other : (bytes : List ℕ) → Other (text bytes)
  text-other bytes = either (holds (codes "]]>") bytes) (Err kind.CdataEnd) (result_map_both (λ t. Chars (chars t) (list_all is_space bytes)) kind_of (said Content bytes)) (fault kind.CdataEnd) (by_said (said Content bytes)) where
    by_said : (s : Result (List ℕ) BadText) → Other (result_map_both (λ t. Chars (chars t) (list_all is_space bytes)) kind_of s)
    by_said (Ok t) e = cc
    by_said (Err f) e = cc

  comment-other : (inside : List ℕ) → Other (comment inside)
  comment-other inside = either _ (Err kind.BadComment) (Ok (Comment (chars (lines inside)))) (fault kind.BadComment) (λ e. cc)

  instruction-other : (inside : List ℕ) → Other (instruction inside)
  instruction-other inside =
      let len = position_or_len is_space inside in
      either (is_target (chars (take len inside))) (Ok (Pi (chars (take len inside)) (chars (lines (after_space (drop len inside)))))) (Err kind.BadPi) (λ e. cc) (fault kind.BadPi)

  declaration-other : (bytes : List ℕ) → Other (declaration bytes)
  declaration-other bytes = by_declared (declared bytes) where
    by_tests : (v e : Bool) → Other (cond (not v) (Err kind.BadVersion) (cond (not e) (Err kind.Encoding) (Ok Declaration)))
    by_tests true true e = cc
    by_tests true false e = cc
    by_tests false f e = cc

    by_declared : (o : Option (List ℕ × Option (List ℕ))) →
        Other (option_map_or (λ told. if not (is_version told.0) then Err kind.BadVersion else if not (option_map_or is_encoding told.1 true) then Err kind.Encoding else Ok Declaration) o (Err kind.BadDeclaration))
    by_declared None = fault kind.BadDeclaration
    by_declared (Some told) = by_tests (is_version told.0) (option_map_or is_encoding told.1 true)

  doctype-other : (bytes : List ℕ) → Other (doctype bytes)
  doctype-other bytes =
      either (begins bytes (codes "<!DOCTYPE") && begins (drop (length bytes - 1) bytes) (codes "[")) (Err kind.InternalSubset) _ (fault kind.InternalSubset)
      (either (option_map_or is_doctype (between (codes "<!DOCTYPE") (codes ">") bytes) false) (Ok Doctype) (Err kind.BadMarkup) (λ e. cc) (fault kind.BadMarkup))

  end-other : (o : Option (List ℕ × List ℕ)) → Other (tag_or_fault (option_and_then (λ found. if is_none (slice_get (after_space found.1) 0) then Some (Ok (End (chars found.0))) else None) o))
  end-other None = fault kind.BadTag
  end-other (Some found) = by_test (is_none (slice_get (after_space found.1) 0)) where
    by_test : (t : Bool) → Other (tag_or_fault (cond t (Some (Ok (End (chars found.0)))) None))
    by_test true e = cc
    by_test false e = cc

  start-other : (o : Option (List ℕ × List ℕ)) → Other (tag_or_fault (option_and_then (λ found. option_map (λ more. result_map (λ attrs. Start (chars found.0) attrs more.1) (attrs_said more.0)) (attributes (suc (length found.1)) found.1)) o))
  start-other None = fault kind.BadTag
  start-other (Some found) = by_rest (attributes (suc (length found.1)) found.1) where
    by_said : (empty : Bool) (s : Result (List RawAttr) BadText) → Other (tag_or_fault (Some (result_map (λ attrs. Start (chars found.0) attrs empty) s)))
    by_said empty (Ok attrs) e = cc
    by_said empty (Err f) e = cc

    by_rest : (o : Option (List (List ℕ × List ℕ) × Bool)) → Other (tag_or_fault (option_map (λ more. result_map (λ attrs. Start (chars found.0) attrs more.1) (attrs_said more.0)) o))
    by_rest None = fault kind.BadTag
    by_rest (Some more) = by_said more.1 (attrs_said more.0)

  tag-other : (inside : List ℕ) → Other (tag_or_fault (tag inside))
  tag-other inside = by_first (after_byte 47 inside) where
    by_first : (o : Option (List ℕ)) → Other (tag_or_fault (option_map_or end_tag o (start_tag inside)))
    by_first None = start-other (named inside)
    by_first (Some rest) = end-other (named rest)

  form-is : (first : Bool) (f : Form) (bytes : List ℕ) → by_form first f bytes ≡ Ok (CData section) → f ≡ form.CData
  form-is first form.CData bytes e = refl
  form-is first form.Text bytes e = absurd (text-other bytes e)
  form-is first form.Comment bytes e = absurd (if_some comment kind.BadMarkup (between (codes "<!--") (codes "-->") bytes) comment-other e)
  form-is first form.Instruction bytes e = absurd (if_some (instruction_or_declaration first) kind.BadPi (between (codes "<?") (codes "?>") bytes) each e) where
    each : (inside : List ℕ) → Other (instruction_or_declaration first inside)
    each inside = either (first && is_declaration inside) (declaration (drop 3 inside)) (instruction inside) (declaration-other (drop 3 inside)) (instruction-other inside)
  form-is first form.Declaration bytes e = absurd (doctype-other bytes e)
  form-is first form.Tag bytes e = absurd (if_some (λ inside. tag_or_fault (tag inside)) kind.BadTag (between (codes "<") (codes ">") bytes) tag-other e)
  form-is first form.Undecided bytes e = absurd (fault kind.BadMarkup e)

  -- a shape that says a section has a section's form
  pub section-form : (first : Bool) (bytes : List ℕ) → judged first bytes ≡ Ok (CData section) → form bytes ≡ form.CData
  unfolding judged
  section-form first bytes h = by_tests (is_utf8 bytes) (list_all is_char (chars bytes)) h where
    by_tests : (u c : Bool) → cond (not u) (Err kind.BadUtf8) (cond (not c) (Err kind.BadChar) (by_form first (form bytes) bytes)) ≡ Ok (CData section) → form bytes ≡ form.CData
    by_tests true true k = form-is first (form bytes) bytes k
    by_tests true false k = absurd (fault kind.BadChar k)
    by_tests false c k = absurd (fault kind.BadUtf8 k)
