-- What the attributes of a tag say, one by one.
use Rattle.std.proofs.Common.{◌≡◌, ℕ, Bool, Bor, true, false, List, Option, Some, None, refl, sym, ap, ◌∙◌}
use Rattle.std.specs.Prelude.{is_some, if◌then◌else◌}
use Rattle.std.specs.Str.{chars}
use Rattle.std.specs.Option.{option_map}
use Rattle.stx_base.specs.declared.name.Binding.{Binding}
use Rattle.stx_base.specs.declared.name.Name.{Name}
use Rattle.xml_tokens.specs.declared.lexeme.RawAttr.{RawAttr}
use Rattle.xml_names.specs.Scope.{attribute_name}
use Rattle.xml_names.specs.Tag.{declared_prefix, declaration, attribute}

module _ (a : RawAttr) (name : List ℕ) (same : name ≡ a.name) where
  pub declaration-some : (p prefix uri : List ℕ) → Some p ≡ declared_prefix name → prefix ≡ p → uri ≡ a.value → declaration a ≡ Some (record { prefix = prefix; uri = uri })
  declaration-some p prefix uri e is value =
      ap (option_map (λ q. record { prefix = q; uri = a.value })) (ap declared_prefix (sym same) ∙ sym e)
      ∙ ap (λ q. Some (record { prefix = q; uri = a.value })) (sym is)
      ∙ ap (λ u. Some (record { prefix = prefix; uri = u })) (sym value)

  pub declaration-none : None ≡ declared_prefix name → declaration a ≡ None
  declaration-none e = ap (option_map (λ q. record { prefix = q; uri = a.value })) (ap declared_prefix (sym same) ∙ sym e)

  pub attribute-some : (path : List (List Binding)) (made : Name) (value : List ℕ)
      → is_some (declared_prefix name) ≡ false → made ≡ attribute_name path name → value ≡ a.value → attribute path a ≡ Some (record { name = made; value = value })
  attribute-some path made value e is v =
      ap (λ t. if t then None else Some (record { name = attribute_name path a.name; value = a.value })) (ap (λ n. is_some (declared_prefix n)) (sym same) ∙ e)
      ∙ ap (λ n. Some (record { name = n; value = a.value })) (sym (is ∙ ap (attribute_name path) same))
      ∙ ap (λ u. Some (record { name = made; value = u })) (sym v)

  pub attribute-none : (path : List (List Binding)) → is_some (declared_prefix name) ≡ true → attribute path a ≡ None
  attribute-none path e =
      ap (λ t. if t then None else Some (record { name = attribute_name path a.name; value = a.value })) (ap (λ n. is_some (declared_prefix n)) (sym same) ∙ e)

module _ (o : Option (Bor (List ℕ))) (name : List ℕ) (e : option_map (λ p. chars p.now) o ≡ declared_prefix name) where
  some : (q : Option (Bor (List ℕ))) → is_some (option_map (λ p. chars p.now) q) ≡ is_some q
  some None = refl
  some (Some p) = refl

  -- an attribute is a declaration or none
  pub is-declared : (t : Bool) → is_some o ≡ t → is_some (declared_prefix name) ≡ t
  is-declared t n = ap is_some (sym e) ∙ some o ∙ n
