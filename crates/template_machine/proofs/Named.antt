-- What an instruction names is there: its base group, and its procedure or its buffer.
use Rattle.std.proofs.Common.{◌≡◌, ℕ, zero, suc, ◌+◌, ◌-◌, ◌<◌, ◌≤◌, ◌==◌, ◌&&◌, Bool, true, false, inl, inr, List, [], ◌∷◌, length, map, All, Option, Some, None, IsSome, refl, ap, sym, subst, ◌∙◌, arith}
use Rattle.std.specs.Prelude.{◌||◌, cond, encode_utf8_all, not, unwrap_or}
use Rattle.std.specs.Str.{bytes_eq}
use Rattle.std.specs.List.{list_any, position, position_or_len, slice_get}
use Rattle.std.specs.Option.{option_and_then, option_map, option_or}
use Rattle.std.proofs.lemmas.Bool.{eq-eqb, eqb-true, false≢true, lt-ltb}
use Rattle.std.proofs.lemmas.List.{length-map}
use Rattle.std.proofs.lemmas.List.Quantifiers.{position-Some}
use Rattle.std.proofs.lemmas.Option.{slice_get-get_or, slice_get-map}
use Rattle.std.proofs.lemmas.Slice.Eq.{bytes_eq-Decides}
use Rattle.instr_code.specs.Bare.{bare, bare_layer, procedure_without_body, template_without_body, without_bodies}
use Rattle.instr_code.specs.Bodies.{joined}
use Rattle.instr_code.specs.Code.{code_of, sheet_bodies}
use Rattle.instr_code.specs.declared.code.Code.{Code}
use Rattle.instr_code.specs.declared.code.Op.{Op}
use Rattle.instr_code.proofs.Bounds.{all_bodies}
use Rattle.node_stack.specs.Test.{same_name}
use Rattle.sheet_model.specs.Body.{all_of, body_nesting, instructions}
use Rattle.sheet_model.specs.Groups.{IsFound, around}
use Rattle.sheet_model.specs.Names.{BufferNamed, ProcedureNamed, is_same}
use Rattle.sheet_model.specs.Parts.{base_named, buffer_named, procedure_named}
use Rattle.sheet_model.specs.Sound.{IsSound, StandsIn, VariablesStand, procedure_says, template_says}
use Rattle.sheet_model.specs.declared.instr.Instr.{Instr}
use Rattle.sheet_model.specs.declared.instr.Instr.TheOpen.{Instr-F}
use Rattle.sheet_model.specs.declared.instr.Instr.TheViews.{out-Instr, out-roll-Instr}
use Rattle.sheet_model.specs.declared.instr.When.{When}
use Rattle.sheet_model.specs.declared.sheet.Buffer.{Buffer}
use Rattle.sheet_model.specs.declared.sheet.Group.{Group}
use Rattle.sheet_model.specs.declared.sheet.Procedure.{Procedure}
use Rattle.sheet_model.specs.declared.sheet.Sheet.{Sheet}
use Rattle.sheet_model.specs.declared.sheet.Template.{Template}
use Rattle.stx_base.specs.declared.name.Name.{Name}
use Rattle.template_machine.specs.Finding.{base_of, buffer_in, buffer_seen, is_named, procedure_in, procedure_seen}
use Rattle.template_machine.specs.Programs.{AreLinked, IsOf, groups_of, instr_of, link_of, named_in}
use Rattle.template_machine.specs.Variables.{first_some}
use Rattle.template_machine.specs.Well.{IsSteady}
use Rattle.template_machine.specs.Working.{HasBase, HasBuffer, HasProcedure}
use Rattle.template_machine.specs.declared.program.Link.{Link}
use Rattle.template_machine.specs.declared.program.Program.{Program}
use Rattle.template_machine.specs.declared.run.Run.{Run}
use Rattle.template_machine.proofs.Bodiless.{found_too}
use Rattle.template_machine.proofs.Evaluable.{all_at}
use Rattle.template_machine.proofs.LaidOut.{laid_out}
use Rattle.template_machine.proofs.Numbering.{in_either}
use Rattle.template_machine.proofs.Owned.{of_first, of_second, owned_at, owner}
use Rattle.template_machine.proofs.Telling.{Told, all_told, body_told, named_told}

-- what is mapped
mapped_from : {A B : Type 0} (f : A → B) (o : Option A) (y : B) → option_map f o ≡ Some y → (x : A) × ((o ≡ Some x) × (f x ≡ y))
mapped_from f None y e = absurd (cc)
mapped_from f (Some x) y e = (x, (refl, cc))

-- The body at a place of the sheet's, with its group.

module _ (s : Sheet) (h : IsSound s) where
  record Grouped (body : ℕ) (list : List Instr) : Type 0 where
    group : ℕ
    at : slice_get (groups_of (without_bodies s)) body ≡ Some group
    within : group < length s.groups
    told : All (Told (IsFound s group)) list

  in_template : (body : ℕ) (list : List Instr) → body < length (map (λ (t : Template). t.body) s.templates)
      → slice_get (map (λ (t : Template). t.body) s.templates) body ≡ Some list → Grouped body list
  in_template body list less is =
      let m = mapped_from (λ (t : Template). t.body) (slice_get s.templates body) list (sym (slice_get-map (λ (t : Template). t.body) s.templates body) ∙ is) in
      let t = m.0 in
      let all = map template_without_body s.templates in
      let far : body < length (map (λ (t : Template). t.group) all) =
      omega (arith, less, length-map s.templates (λ (t : Template). t.body), length-map all (λ (t : Template). t.group), length-map s.templates template_without_body) in
      let stands = all_at (λ (t : Template). StandsIn s t.group t.at × VariablesStand s t.params) s.templates body t h.numbers.templates m.1.0 in
      let says = all_at (λ (t : Template). All (IsFound s t.group) (template_says t)) s.templates body t h.found.templates m.1.0 in
      record {
        group = t.group;
        at =
            of_first (map (λ (t : Template). t.group) all) (map (λ (q : Procedure). q.group) (map procedure_without_body s.procedures)) body far
            ∙ slice_get-map (λ (t : Template). t.group) all body
            ∙ ap (option_map (λ (t : Template). t.group)) (slice_get-map template_without_body s.templates body ∙ ap (option_map template_without_body) m.1.0);
        within = stands.0.0;
        told = subst (All (Told (IsFound s t.group))) m.1.1 (body_told (IsFound s t.group) t.params t.body [] says);
      }

  in_procedure : (body : ℕ) (list : List Instr) → length (map (λ (t : Template). t.body) s.templates) ≤ body
      → slice_get (map (λ (q : Procedure). q.body) s.procedures) (body - length (map (λ (t : Template). t.body) s.templates)) ≡ Some list → Grouped body list
  in_procedure body list more is =
      let place = body - length (map (λ (t : Template). t.body) s.templates) in
      let m = mapped_from (λ (q : Procedure). q.body) (slice_get s.procedures place) list (sym (slice_get-map (λ (q : Procedure). q.body) s.procedures place) ∙ is) in
      let q = m.0 in
      let all = map procedure_without_body s.procedures in
      let first = map (λ (t : Template). t.group) (map template_without_body s.templates) in
      let long : length first ≡ length (map (λ (t : Template). t.body) s.templates) =
      omega (
        arith,
        length-map s.templates (λ (t : Template). t.body),
        length-map (map template_without_body s.templates) (λ (t : Template). t.group),
        length-map s.templates template_without_body,
      ) in
      let stands = all_at (λ (q : Procedure). StandsIn s q.group q.at × VariablesStand s q.params) s.procedures place q h.numbers.procedures m.1.0 in
      let says = all_at (λ (q : Procedure). All (IsFound s q.group) (procedure_says q)) s.procedures place q h.found.procedures m.1.0 in
      record {
        group = q.group;
        at =
            of_second first (map (λ (q : Procedure). q.group) all) body (omega (arith, more, long))
            ∙ ap (slice_get (map (λ (q : Procedure). q.group) all)) (omega (arith, long))
            ∙ slice_get-map (λ (q : Procedure). q.group) all place
            ∙ ap (option_map (λ (q : Procedure). q.group)) (slice_get-map procedure_without_body s.procedures place ∙ ap (option_map procedure_without_body) m.1.0);
        within = stands.0.0;
        told = subst (All (Told (IsFound s q.group))) m.1.1 (body_told (IsFound s q.group) q.params q.body [] says);
      }

  grouped : (body : ℕ) (list : List Instr) → slice_get (sheet_bodies s) body ≡ Some list → Grouped body list
  grouped body list is =
      elim (in_either (map (λ (t : Template). t.body) s.templates) (map (λ (q : Procedure). q.body) s.procedures) body list is) [
        | inl x ↦ in_template body list x.0 x.1
        | inr x ↦ in_procedure body list x.0 x.1
      ]

-- An instruction keeps what it names where the lists inside it are emptied.

layer_names : (x : Instr-F Instr When) → (procedure_named (bare_layer x) ≡ procedure_named x) × (buffer_named (bare_layer x) ≡ buffer_named x)
layer_names (Instr-F.Copy attributes body at) = (refl, refl)
layer_names x = (refl, refl)

bare_procedure : (i : Instr) → procedure_named (out-Instr (bare i)) ≡ procedure_named (out-Instr i)
bare_procedure i = ap procedure_named (out-roll-Instr (bare_layer (out-Instr i))) ∙ (layer_names (out-Instr i)).0

bare_buffer : (i : Instr) → buffer_named (out-Instr (bare i)) ≡ buffer_named (out-Instr i)
bare_buffer i = ap buffer_named (out-roll-Instr (bare_layer (out-Instr i))) ∙ (layer_names (out-Instr i)).1

-- What is known of the instruction of an operation.
record Linked (s : Sheet) (links : List Link) (k : ℕ) (i : Instr) : Type 0 where
  body : ℕ
  group : ℕ
  at : slice_get (groups_of (without_bodies s)) body ≡ Some group
  of_body : IsOf (code_of s) body k
  within : group < length s.groups
  link : slice_get links k ≡ Some (link_of (without_bodies s) group i)
  procedure : (name : Name) → procedure_named (out-Instr i) ≡ Some name → IsFound s group (ProcedureNamed name)
  buffer : (name : Name) → buffer_named (out-Instr i) ≡ Some name → IsFound s group (BufferNamed name)

linked : (s : Sheet) (links : List Link) → IsSound s → AreLinked (without_bodies s) (code_of s) links → (place k : ℕ) (o : Op) (i : Instr)
    → slice_get (code_of s).ops place ≡ Some o → instr_of o ≡ Some k → slice_get (code_of s).instrs k ≡ Some i → Linked s links k i
linked s links h are place k o i is for there =
    let w = owned_at s place k o is for in
    let g = grouped s h w.body w.list w.is in
    let m = mapped_from bare (slice_get (instructions s) k) i (sym (slice_get-map bare (instructions s) k) ∙ there) in
    let j = m.0 in
    let none : k ≡ k - 0 = omega arith in
    let own : slice_get (all_of w.list) w.number ≡ Some j =
    sym w.same ∙ ap (slice_get (all_of (joined (sheet_bodies s)))) (sym none) ∙ ap (λ l. slice_get (all_of l) k) (all_bodies s) ∙ m.1.0 in
    let P = IsFound s g.group in
    let told = all_at (Told P) (all_of w.list) w.number j (all_told P (body_nesting w.list) w.list g.told) own in
    let names = named_told P j told in
    record {
      body = w.body;
      group = g.group;
      at = g.at;
      of_body = owner s place k o w is for;
      within = g.within;
      link = are w.body g.group k g.at (owner s place k o w is for) i there;
      procedure = λ name e. names.0 name (sym (bare_procedure j) ∙ ap (λ x. procedure_named (out-Instr x)) m.1.1 ∙ e);
      buffer = λ name e. names.1 name (sym (bare_buffer j) ∙ ap (λ x. buffer_named (out-Instr x)) m.1.1 ∙ e);
    }

-- What is found is seen.

or_first : (a b : Option ℕ) → IsSome a → IsSome (option_or a b)
or_first None b h = absurd (false≢true h)
or_first (Some x) b h = refl

or_second : (a b : Option ℕ) → IsSome b → IsSome (option_or a b)
or_second None b h = h
or_second (Some x) b h = refl

or_is : (a b : Option ℕ) (k : ℕ) (A : Type 0) → option_or a b ≡ Some k → (a ≡ Some k → A) → (b ≡ Some k → A) → A
or_is None b k A e f g = g e
or_is (Some x) b k A e f g = f e

some_seen : (f : ℕ → Option ℕ) (g : ℕ) (xs : List ℕ) → list_any (λ k. k == g) xs ≡ true → IsSome (f g) → IsSome (first_some f xs)
some_seen f g [] any h = absurd (false≢true any)
some_seen f g (x ∷ xs) any h = by (x == g) refl (λ e. some_seen f g xs (sym (ap (λ b. b || list_any (λ k. k == g) xs) e) ∙ any) h)
  where
    by : (b : Bool) → (x == g) ≡ b → ((x == g) ≡ false → IsSome (first_some f xs)) → IsSome (first_some f (x ∷ xs))
    by true e later = or_first (f x) (first_some f xs) (subst (λ k. IsSome (f k)) (sym (eqb-true x g e)) h)
    by false e later = or_second (f x) (first_some f xs) (later e)

seen_within : (f : ℕ → Option ℕ) (n : ℕ) (xs : List ℕ) (k : ℕ) → ((x y : ℕ) → f x ≡ Some y → y < n) → first_some f xs ≡ Some k → k < n
seen_within f n [] k each e = absurd (cc)
seen_within f n (x ∷ xs) k each e = or_is (f x) (first_some f xs) k (k < n) e (each x k) (seen_within f n xs k each)

-- the first that passes is there, where one passes

before_end : {A : Type 0} (p : A → Bool) (xs : List A) (n : ℕ) (x : A) → slice_get xs n ≡ Some x → p x ≡ true → position_or_len p xs < length xs
before_end p [] n x is e = absurd (cc)
before_end p (y ∷ ys) zero x is e =
    let same : p y ≡ true = cc in
    let first : position_or_len p (y ∷ ys) ≡ 0 = ap (λ b. cond (not b) (1 + position_or_len p ys) 0) same in omega (arith, first)
before_end p (y ∷ ys) (suc n) x is e = by (p y) refl (before_end p ys n x is e)
  where
    by : (b : Bool) → p y ≡ b → position_or_len p ys < length ys → position_or_len p (y ∷ ys) < length (y ∷ ys)
    by true f less = let first : position_or_len p (y ∷ ys) ≡ 0 = ap (λ b. cond (not b) (1 + position_or_len p ys) 0) f in omega (arith, first)
    by false f less =
        let later : position_or_len p (y ∷ ys) ≡ 1 + position_or_len p ys = ap (λ b. cond (not b) (1 + position_or_len p ys) 0) f in
        omega (arith, later, less)

passes_somewhere : {A : Type 0} (p : A → Bool) (xs : List A) (n : ℕ) (x : A) → slice_get xs n ≡ Some x → p x ≡ true → IsSome (position p xs)
passes_somewhere p xs n x is e =
    let k = position_or_len p xs in
    let there : position p xs ≡ Some k = ap (λ b. cond b (Some k) None) (lt-ltb k (length xs) (before_end p xs n x is e)) in
    subst (λ o. IsSome o) (sym there) refl

position_within : {A : Type 0} (p : A → Bool) (xs : List A) (k : ℕ) → position p xs ≡ Some k → k < length xs
position_within p [] k e = absurd (cc)
position_within p (x ∷ xs) k e = (position-Some p (x ∷ xs) k x e).0

same_text : (a b : List ℕ) → a ≡ b → bytes_eq (encode_utf8_all a) (encode_utf8_all b) ≡ true
same_text a b e = (bytes_eq-Decides (encode_utf8_all a) (encode_utf8_all b)).1 (ap encode_utf8_all e)

both_true : (a b : Bool) → (a && b) ≡ true → (a ≡ true) × (b ≡ true)
both_true true true e = (refl, refl)
both_true true false e = absurd (false≢true e)
both_true false b e = absurd (false≢true e)

-- names that agree by the words of sheets agree by those of paths
agree : (m n : Name) → is_same m n ≡ true → same_name m n ≡ true
agree m n e =
    let b = both_true (bytes_eq m.uri n.uri) (bytes_eq m.local n.local) e in
    let uri = same_text m.uri n.uri ((bytes_eq-Decides m.uri n.uri).0 b.0) in
    let local = same_text m.local n.local ((bytes_eq-Decides m.local n.local).0 b.1) in
    ap (λ x. x && bytes_eq (encode_utf8_all m.local) (encode_utf8_all n.local)) uri ∙ local

some_there : (o : Option ℕ) → IsSome o → (k : ℕ) × (o ≡ Some k)
some_there None h = absurd (false≢true h)
some_there (Some k) h = (k, refl)

procedure_found : (s : Sheet) (g : ℕ) (n : Name) → IsFound s g (ProcedureNamed n) → (k : ℕ) × ((procedure_seen s g n ≡ Some k) × (k < length s.procedures))
procedure_found s g n h =
    let q = h.1 in
    let there : slice_get s.procedures h.0 ≡ Some q = slice_get-get_or s.procedures h.0 q h.2 ∙ ap (λ x. Some x) h.3 in
    let passes : (q.group == q.group && same_name q.name n) ≡ true =
    ap (λ b. b && same_name q.name n) (eq-eqb q.group q.group refl) ∙ agree q.name n h.4.1 in
    let some = passes_somewhere (λ (x : Procedure). x.group == q.group && same_name x.name n) s.procedures h.0 q there passes in
    let k = some_there (procedure_seen s g n) (some_seen (procedure_in s.procedures n) q.group (around s.groups g) h.4.0 some) in (
      k.0,
      (
        k.1,
        seen_within (procedure_in s.procedures n) (length s.procedures) (around s.groups g) k.0
            (λ x y e. position_within (λ (z : Procedure). z.group == x && same_name z.name n) s.procedures y e) k.1,
      ),
    )

buffer_found : (s : Sheet) (g : ℕ) (n : Name) → IsFound s g (BufferNamed n) → (k : ℕ) × ((buffer_seen s g n ≡ Some k) × (k < length s.buffers))
buffer_found s g n h =
    let q = h.1 in
    let there : slice_get s.buffers h.0 ≡ Some q = slice_get-get_or s.buffers h.0 q h.2 ∙ ap (λ x. Some x) h.3 in
    let passes : (q.group == q.group && same_name q.name n) ≡ true =
    ap (λ b. b && same_name q.name n) (eq-eqb q.group q.group refl) ∙ agree q.name n h.4.1 in
    let some = passes_somewhere (λ (x : Buffer). x.group == q.group && same_name x.name n) s.buffers h.0 q there passes in
    let k = some_there (buffer_seen s g n) (some_seen (buffer_in s.buffers n) q.group (around s.groups g) h.4.0 some) in (
      k.0,
      (
        k.1,
        seen_within (buffer_in s.buffers n) (length s.buffers) (around s.groups g) k.0
            (λ x y e. position_within (λ (z : Buffer). z.group == x && same_name z.name n) s.buffers y e) k.1,
      ),
    )

-- an instruction names no two of them
only_buffer : (x : Instr-F Instr When) (name : Name) → buffer_named x ≡ Some name → procedure_named x ≡ None
only_buffer (Instr-F.CallProcedure other params at) name e = absurd (cc)
only_buffer x name e = refl

base_within : (s : Sheet) (o : Option Name) (g : ℕ) → g < length s.groups → base_of s o g < length s.groups
base_within s None g h = h
base_within s (Some name) g h = by (position (λ (x : Group). is_named name x.name) s.groups) refl
  where
    by : (o : Option ℕ) → position (λ (x : Group). is_named name x.name) s.groups ≡ o → unwrap_or o 0 < length s.groups
    by None e = omega (arith, h)
    by (Some k) e = position_within (λ (x : Group). is_named name x.name) s.groups k e

-- Of a run.

one_of : {A : Type 0} {x y : A} → Some x ≡ Some y → x ≡ y
one_of e = cc

module _ (p : Program) (r : Run) (steady : IsSteady p r) where
  abbrev sheet : Sheet
  sheet = steady.sheet

  of_program : (place k : ℕ) (o : Op) (i : Instr) → slice_get p.code.ops place ≡ Some o → instr_of o ≡ Some k → slice_get p.code.instrs k ≡ Some i
      → Linked sheet p.links k i
  of_program place k o i is for there =
      let code = steady.program.code_is in
      let are : AreLinked (without_bodies sheet) (code_of sheet) p.links =
      subst (λ (c : Code). AreLinked (without_bodies sheet) c p.links) code
      (subst (λ (x : Sheet). AreLinked x p.code p.links) steady.program.sheet_is steady.program.links_are) in
      linked sheet p.links steady.sound are place k o i (subst (λ (c : Code). slice_get c.ops place ≡ Some o) code is) for
      (subst (λ (c : Code). slice_get c.instrs k ≡ Some i) code there)

  pub named_procedure : (place k : ℕ) (o : Op) (i : Instr) (name : Name) → slice_get p.code.ops place ≡ Some o → instr_of o ≡ Some k
      → slice_get p.code.instrs k ≡ Some i → procedure_named (out-Instr i) ≡ Some name → HasProcedure p k
  named_procedure place k o i name is for there named =
      let l = of_program place k o i is for there in
      let t = without_bodies sheet in
      let x = out-Instr i in
      let f = procedure_found t l.group name (found_too sheet l.group (ProcedureNamed name) (l.procedure name named)) in
      let same : unwrap_or (named_in t l.group x) 0 ≡ f.0 =
      ap (λ o. unwrap_or (option_or (option_and_then (procedure_seen t l.group) o) (option_and_then (buffer_seen t l.group) (buffer_named x))) 0) named
      ∙ ap (λ o. unwrap_or (option_or o (option_and_then (buffer_seen t l.group) (buffer_named x))) 0) f.1.0 in
      (link_of t l.group i, (l.link, subst (λ (y : Sheet). (link_of t l.group i).named < length y.procedures) (sym steady.program.sheet_is) (omega (arith, same, f.1.1))))

  -- the procedure that an instruction of a body names is seen from the body's group
  pub procedure_linked : (place k : ℕ) (o : Op) (i : Instr) (name : Name) → slice_get p.code.ops place ≡ Some o → instr_of o ≡ Some k
      → slice_get p.code.instrs k ≡ Some i → procedure_named (out-Instr i) ≡ Some name → (body group : ℕ) → slice_get (groups_of p.sheet) body ≡ Some group → IsOf p.code body k
      → (link : Link) → slice_get p.links k ≡ Some link → procedure_seen p.sheet group name ≡ Some link.named
  procedure_linked place k o i name is for there named body group grouped own link linked =
      let l = of_program place k o i is for there in
      let t = without_bodies sheet in
      let x = out-Instr i in
      let f = procedure_found t l.group name (found_too sheet l.group (ProcedureNamed name) (l.procedure name named)) in
      let same : unwrap_or (named_in t l.group x) 0 ≡ f.0 =
      ap (λ o. unwrap_or (option_or (option_and_then (procedure_seen t l.group) o) (option_and_then (buffer_seen t l.group) (buffer_named x))) 0) named
      ∙ ap (λ o. unwrap_or (option_or o (option_and_then (buffer_seen t l.group) (buffer_named x))) 0) f.1.0 in
      let bodies : body ≡ l.body = (laid_out sheet).apart body l.body k (subst (λ (c : Code). IsOf c body k) steady.program.code_is own) l.of_body in
      let groups : group ≡ l.group =
      one_of (sym grouped ∙ ap (λ (y : Sheet). slice_get (groups_of y) body) steady.program.sheet_is ∙ ap (slice_get (groups_of t)) bodies ∙ l.at) in
      let link_is : link ≡ link_of t l.group i = one_of (sym linked ∙ l.link) in
      ap (λ (y : Sheet). procedure_seen y group name) steady.program.sheet_is ∙ ap (λ g. procedure_seen t g name) groups ∙ f.1.0
      ∙ ap (λ n. Some n) (sym (ap (λ (y : Link). y.named) link_is ∙ same))

  pub named_buffer : (place k : ℕ) (o : Op) (i : Instr) (name : Name) → slice_get p.code.ops place ≡ Some o → instr_of o ≡ Some k
      → slice_get p.code.instrs k ≡ Some i → buffer_named (out-Instr i) ≡ Some name → HasBuffer p k
  named_buffer place k o i name is for there named =
      let l = of_program place k o i is for there in
      let t = without_bodies sheet in
      let x = out-Instr i in
      let f = buffer_found t l.group name (found_too sheet l.group (BufferNamed name) (l.buffer name named)) in
      let same : unwrap_or (named_in t l.group x) 0 ≡ f.0 =
      ap (λ o. unwrap_or (option_or (option_and_then (procedure_seen t l.group) o) (option_and_then (buffer_seen t l.group) (buffer_named x))) 0) (only_buffer x name named)
      ∙ ap (λ o. unwrap_or (option_and_then (buffer_seen t l.group) o) 0) named ∙ ap (λ o. unwrap_or o 0) f.1.0 in
      (link_of t l.group i, (l.link, subst (λ (y : Sheet). (link_of t l.group i).named < length y.buffers) (sym steady.program.sheet_is) (omega (arith, same, f.1.1))))

  pub named_base : (place k : ℕ) (o : Op) (i : Instr) → slice_get p.code.ops place ≡ Some o → instr_of o ≡ Some k → slice_get p.code.instrs k ≡ Some i → HasBase p k
  named_base place k o i is for there =
      let l = of_program place k o i is for there in
      let t = without_bodies sheet in (
        link_of t l.group i,
        (
          l.link,
          subst (λ (y : Sheet). (link_of t l.group i).base < length y.groups) (sym steady.program.sheet_is)
              (base_within t (base_named (out-Instr i)) l.group l.within),
        ),
      )
