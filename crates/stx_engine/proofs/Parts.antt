-- No end tag in the bytes of accepted parts lacks its start tag.
use Rattle.std.proofs.Common.{◌≡◌, ℕ, Bool, true, false, ◌&&◌, List, [], ◌∷◌, ◌++◌, Option, Some, None, refl, sym, subst, append_assoc}
use Rattle.std.specs.Prelude.{codes, encode_utf8_all, if◌then◌else◌}
use Rattle.std.specs.List.{list_all}
use Rattle.std.proofs.lemmas.Bool.{and_parts, and_from}
use Rattle.stx_base.specs.declared.name.Attr.{Attr}
use Rattle.stx_base.specs.declared.name.Binding.{Binding}
use Rattle.stx_base.specs.declared.name.Name.{Name}
use Rattle.stx_base.specs.declared.part.Part.{Part}
use Rattle.stx_base.specs.declared.part.Part.TheVariants as part
use Rattle.result_writer.specs.Allowed.{are_chars, is_good_attribute, is_good_comment, is_good_data, is_good_name, is_good_target, is_prefix}
use Rattle.result_writer.specs.Escape.{escaped}
use Rattle.result_writer.specs.Laws.{WritesPrefixes}
use Rattle.result_writer.specs.Tag.{dressed, qname}
use Rattle.result_writer.specs.Target.{Element, Left, added, cdata_text, closed, comment_text, end_text, fault, first_fault, in_force, instruction_text, next, nothing, or_else, same_name, settled, settles, tag_text, text, text_from, unless, with_attribute}
use Rattle.result_writer.specs.declared.escape.Context.TheVariants.{Content}
use Rattle.result_writer.specs.declared.fault.ResultFault.{ResultFault}
use Rattle.result_writer.specs.declared.fault.ResultFault.TheVariants.{BadChar, BadComment, BadName, BadPi}
use Rattle.result_writer.specs.declared.tag.HeldTag.{HeldTag}
use Rattle.run_engine.specs.Run.{head}
use Rattle.stx_engine.specs.Nesting.{Turns}
use Rattle.run_parts.specs.Sound.{is_sound_part}
use Rattle.stx_engine.specs.Laws.{PartsNest}
use Rattle.stx_engine.proofs.Dressing.{IsWord, dressed-good, escaped_text, fields, name_is, open_tag-is}
use Rattle.stx_engine.proofs.Sections.{cdata_effect, cdata_whole}
use Rattle.stx_engine.proofs.Leaves.{comment_effect, comment_whole, instruction_effect, instruction_whole}
use Rattle.stx_engine.proofs.Markup.{AreFields, Field, empty_effect, empty_whole, end_effect, end_whole, is_inner, start_effect, start_whole, tag_of}
use Rattle.stx_engine.proofs.Matching.{Matched, front_matched, nothing_matched, shape_matched, text_matched}

-- What is open

abbrev word : Name → List ℕ
word n = qname n.prefix n.local

-- the names of open elements, as they are written
abbrev words : List Element → List (List ℕ)
words [] = []
words (e ∷ es) = word e.name ∷ words es

abbrev AreGood : List Element → Type 0
AreGood [] = Unit {0}
AreGood (e ∷ es) = (is_good_name e.name ≡ true) × AreGood es

abbrev are_good : List Attr → Bool
are_good attrs = list_all (λ a. is_good_attribute a.name) attrs

abbrev are_prefixes : List Binding → Bool
are_prefixes bs = list_all (λ b. is_prefix b.prefix) bs

abbrev IsGood : Option HeldTag → Type 0
IsGood None = Unit {0}
IsGood (Some tag) = (is_good_name tag.name ≡ true) × (are_good tag.attrs ≡ true) × (are_prefixes tag.scope ≡ true)

-- Tags

module _ (bytes : List ℕ) (is : IsWord bytes) (fs : List Field) (are : AreFields fs) (names : List (List ℕ)) (more : List ℕ) where
  inner : list_all is_inner (is.first ∷ is.rest) ≡ true
  inner = subst (λ l. list_all is_inner l ≡ true) is.is is.inner

  start_matched : Matched (bytes ∷ names) more → Matched names ((tag_of bytes fs ++ 62 ∷ []) ++ more)
  start_matched =
      subst (λ l. Matched (l ∷ names) more → Matched names ((tag_of l fs ++ 62 ∷ []) ++ more)) (sym is.is)
      (λ m. shape_matched names ((is.first ∷ is.rest) ∷ names) (tag_of (is.first ∷ is.rest) fs ++ 62 ∷ []) more (start_whole is.first is.rest fs inner are more)
      (subst (λ x. Turns x names ((is.first ∷ is.rest) ∷ names)) (sym (start_effect is.first is.rest fs inner are)) refl) m)

  empty_matched : Matched names more → Matched names ((tag_of bytes fs ++ 47 ∷ 62 ∷ []) ++ more)
  empty_matched =
      subst (λ l. Matched names more → Matched names ((tag_of l fs ++ 47 ∷ 62 ∷ []) ++ more)) (sym is.is)
      (λ m. shape_matched names names (tag_of (is.first ∷ is.rest) fs ++ 47 ∷ 62 ∷ []) more (empty_whole is.first is.rest fs inner are more)
      (subst (λ x. Turns x names names) (sym (empty_effect is.first is.rest fs inner are)) refl) m)

  end_matched : Matched names more → Matched (bytes ∷ names) ((60 ∷ 47 ∷ (bytes ++ 62 ∷ [])) ++ more)
  end_matched m =
      shape_matched (bytes ∷ names) names (60 ∷ 47 ∷ (bytes ++ 62 ∷ [])) more (end_whole bytes more is.inner)
      (subst (λ x. Turns x (bytes ∷ names) names) (sym (end_effect bytes is.inner)) refl) m

module _ (prefixes : WritesPrefixes) where
  -- what a good tag has behind its name
  dressed_fields : (es : List Element) (tag : HeldTag) → IsGood (Some tag) → AreFields (fields (dressed (in_force es) tag) tag.attrs)
  dressed_fields es tag good =
      let are = prefixes (in_force es) tag good.0 good.1 good.2 in
      dressed-good (dressed (in_force es) tag) tag.attrs are.0 are.1 good.1

  -- a tag that was held back, and what follows it
  begun : (es : List Element) (held : Option HeldTag) → IsGood held → (more : List ℕ) → Matched (words (settled es held)) more → Matched (words es) (tag_text es held (codes ">") ++ more)
  begun es None good more m = m
  begun es (Some tag) good more m =
      let d = dressed (in_force es) tag in
      subst (λ l. Matched (words es) ((l ++ codes ">") ++ more)) (sym (open_tag-is tag d))
      (start_matched (word tag.name) (name_is tag.name good.0) (fields d tag.attrs) (dressed_fields es tag good) (words es) more m)

  -- an end, and what follows it
  ended : (es : List Element) (held : Option HeldTag) → AreGood es → IsGood held → (more : List ℕ) → Matched (words (closed es held)) more → Matched (words es) (end_text es held ++ more)
  ended es (Some tag) all good more m =
      let d = dressed (in_force es) tag in
      subst (λ l. Matched (words es) ((l ++ codes "/>") ++ more)) (sym (open_tag-is tag d))
      (empty_matched (word tag.name) (name_is tag.name good.0) (fields d tag.attrs) (dressed_fields es tag good) (words es) more m)
  ended [] None all good more m = m
  ended (e ∷ es) None all good more m = end_matched (word e.name) (name_is e.name all.0) [] tt (words es) more m

  -- a tag that was held back, then a leaf, and what follows it
  leaf_matched : (es : List Element) (held : Option HeldTag) → IsGood held → (leaf more : List ℕ) →
      Matched (words (settled es held)) (leaf ++ more) → Matched (words es) ((tag_text es held (codes ">") ++ leaf) ++ more)
  leaf_matched es held good leaf more m =
      subst (Matched (words es)) (sym (append_assoc (tag_text es held (codes ">")) leaf more)) (begun es held good (leaf ++ more) m)

-- Parts

passed : (test : Bool) (f : ResultFault) (others : Option ResultFault) → unless test f others ≡ None → (test ≡ true) × (others ≡ None)
passed true f others h = (refl, h)
passed false f others h = absurd cc

neither : (o p : Option ResultFault) → or_else o p ≡ None → (o ≡ None) × (p ≡ None)
neither None p h = (refl, h)
neither (Some f) p h = absurd cc

settled_good : (es : List Element) (held : Option HeldTag) → AreGood es → IsGood held → AreGood (settled es held)
settled_good es None all good = all
settled_good es (Some tag) all good = (good.0, all)

closed_good : (es : List Element) (held : Option HeldTag) → AreGood es → AreGood (closed es held)
closed_good es (Some tag) all = all
closed_good [] None all = tt
closed_good (e ∷ es) None all = all.1

attribute_good : (attrs : List Attr) (name : Name) (value : List ℕ) → are_good attrs ≡ true → is_good_attribute name ≡ true → are_good (with_attribute attrs name value) ≡ true
attribute_good [] name value h k = and_from (is_good_attribute name) true k refl
attribute_good (a ∷ attrs) name value h k =
    let both = and_parts (is_good_attribute a.name) (are_good attrs) h in
    elim (same_name a.name name) as (λ t. are_good (if t then record a { value = value } ∷ attrs else a ∷ with_attribute attrs name value) ≡ true) [
      | true ↦ h
      | false ↦ and_from _ _ both.0 (attribute_good attrs name value both.1 k)
    ]

added_good : (held : Option HeldTag) (name : Name) (value : List ℕ) → IsGood held → is_good_attribute name ≡ true → IsGood (added held name value)
added_good None name value good h = tt
added_good (Some tag) name value good h = (good.0, attribute_good tag.attrs name value good.1 h, good.2)

abbrev Good : Left → Type 0
Good l = AreGood l.elements × IsGood l.held

good_next : (limit : ℕ) (l : Left) (p : Part) → fault limit l p ≡ None → is_sound_part p ≡ true → Good l → Good (next l p)
good_next limit l (part.Start name scope) h k g = (settled_good l.elements l.held g.0 g.1, ((passed (is_good_name name) BadName _ h).0, refl, k))
good_next limit l (part.Attribute name value) h k g = (g.0, added_good l.held name value g.1 (passed (is_good_attribute name) BadName _ h).0)
good_next limit l (part.End name) h k g = (closed_good l.elements l.held g.0, tt)
good_next limit l (part.Chars text) h k g = (settled_good l.elements l.held g.0 g.1, tt)
good_next limit l (part.CData text) h k g = (settled_good l.elements l.held g.0 g.1, tt)
good_next limit l (part.Comment text) h k g = (settled_good l.elements l.held g.0 g.1, tt)
good_next limit l (part.Pi target text) h k g = (settled_good l.elements l.held g.0 g.1, tt)

module _ (prefixes : WritesPrefixes) (limit : ℕ) where
  abbrev Follows : Left → List ℕ → Type 0
  Follows l bytes = Matched (words l.elements) bytes

  settles_matched : (l : Left) (p : Part) → fault limit l p ≡ None → is_sound_part p ≡ true → Good l → (more : List ℕ) → Follows (next l p) more → Follows l (settles l p ++ more)
  settles_matched l (part.Start name scope) h k g more m = begun prefixes l.elements l.held g.1 more m
  settles_matched l (part.Attribute name value) h k g more m = m
  settles_matched l (part.End name) h k g more m = ended prefixes l.elements l.held g.0 g.1 more m
  settles_matched l (part.Chars text) h k g more m =
      let names = words (settled l.elements l.held) in
      let bytes = encode_utf8_all text in
      leaf_matched prefixes l.elements l.held g.1 (escaped Content bytes) more (text_matched names (escaped Content bytes) more (escaped_text bytes) m)
  settles_matched l (part.CData text) h k g more m =
      let names = words (settled l.elements l.held) in
      leaf_matched prefixes l.elements l.held g.1 (cdata_text text) more
      (shape_matched names names (cdata_text text) more (cdata_whole text more k) (subst (λ x. Turns x names names) (sym (cdata_effect text)) refl) m)
  settles_matched l (part.Comment text) h k g more m =
      let names = words (settled l.elements l.held) in
      let good = (passed (is_good_comment text) BadComment None (passed (are_chars text) BadChar _ h).1).0 in
      leaf_matched prefixes l.elements l.held g.1 (comment_text text) more
      (shape_matched names names (comment_text text) more (comment_whole text more good) (subst (λ x. Turns x names names) (sym (comment_effect text)) refl) m)
  settles_matched l (part.Pi target text) h k g more m =
      let names = words (settled l.elements l.held) in
      let good = and_parts (is_good_target target) (is_good_data text) (passed (is_good_target target && is_good_data text) BadPi None (passed (are_chars text) BadChar _ h).1).0 in
      leaf_matched prefixes l.elements l.held g.1 (instruction_text target text) more
      (shape_matched names names (instruction_text target text) more (instruction_whole target text more good.0 good.1)
      (subst (λ x. Turns x names names) (sym (instruction_effect target text)) refl) m)

  parts_matched : (l : Left) (ps : List Part) → first_fault limit l ps ≡ None → list_all is_sound_part ps ≡ true → Good l → Follows l (text_from l ps)
  parts_matched l [] h k g = nothing_matched (words l.elements)
  parts_matched l (p ∷ ps) h k g =
      let none = neither (fault limit l p) (first_fault limit (next l p) ps) h in
      let both = and_parts (is_sound_part p) (list_all is_sound_part ps) k in
      settles_matched l p none.0 both.0 g (text_from (next l p) ps)
      (parts_matched (next l p) ps none.1 both.1 (good_next limit l p none.0 both.0 g))

-- Results

-- an XML declaration is a whole shape and no tag
declared : (more : List ℕ) → Matched [] more → Matched [] (head ++ more)
declared more m =
    shape_matched [] [] (codes "<?xml version=\"1.0\" encoding=\"UTF-8\"?>") (10 ∷ more) refl refl (text_matched [] (10 ∷ []) more refl m)

pub parts-nest : WritesPrefixes → PartsNest
parts-nest prefixes limit ps front h k b =
    front_matched front b.0 (subst (Matched []) (sym b.1) (declared (text ps) (parts_matched prefixes limit nothing ps h k (tt, tt))))
