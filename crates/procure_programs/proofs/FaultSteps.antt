-- The program's fault for each fault.
use Rattle.procure_programs.proofs.Names.{◌≡◌, ◌⊎◌, inl, inr, ℕ, List, Err, refl, subst, sym, ap, ◌∙◌, ShelfFault, OpenFault, settings_in, no_memory, of_settings, ProgramFault, SettingsFault, NoMemory, NotToml, Member, IsOfStore, of_opening, of_shelf, IsOfSettings, IsOfText}
use Rattle.office_base.specs.declared.shelf.ShelfFault.TheVariants as shelf
use Rattle.office_store.specs.declared.found.OpenFault.TheVariants as opening

pub memory_is : (told : ProgramFault) → told ≡ no_memory → IsOfStore told
memory_is told is = subst (λ (t : ProgramFault). IsOfStore t) (sym is) refl

openings : (f : OpenFault) → IsOfStore (of_opening f)
openings opening.NoMemory = refl
openings opening.Store = tt
openings opening.NotAnOffice = tt

pub opening_is : (told : ProgramFault) (f : OpenFault) → told ≡ of_opening f → IsOfStore told
opening_is told f is = subst (λ (t : ProgramFault). IsOfStore t) (sym is) (openings f)

shelves : (f : ShelfFault) → IsOfStore (of_shelf f)
shelves shelf.NoMemory = refl
shelves shelf.Store = tt

pub shelf_is : (told : ProgramFault) (f : ShelfFault) → told ≡ of_shelf f → IsOfStore told
shelf_is told f is = subst (λ (t : ProgramFault). IsOfStore t) (sym is) (shelves f)

all_settings : (f : SettingsFault) → IsOfSettings (of_settings f)
all_settings NoMemory = refl
all_settings NotToml = tt
all_settings (Member member) = tt

pub settings_are : (told : ProgramFault) (f : SettingsFault) → told ≡ of_settings f → IsOfSettings told
settings_are told f is = subst (λ (t : ProgramFault). IsOfSettings t) (sym is) (all_settings f)

-- The fault of a text that gives no settings.
pub of_text : (text : List ℕ) (told : ProgramFault) (f : SettingsFault) → told ≡ of_settings f → (f ≡ NoMemory) ⊎ (settings_in text ≡ Err f) → IsOfText text told
of_text text told f is (inl none) = inl (is ∙ ap of_settings none)
of_text text told f is (inr wrong) = inr (f, wrong, is)
