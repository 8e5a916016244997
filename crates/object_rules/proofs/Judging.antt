-- What bind and ALLOW_IOVAS ask of the fields of an object, as tests in order, and a device that they do not fit.
use mathlib.Core.Path.{◌≡◌, sym}
use mathlib.Core.Bool.{false, not, ◌&&◌}
use lib.Dec.{eqb, leb}
use Rattle.rules_table.specs.declared.Attachment.{Attachment}
use Rattle.rules_table.specs.declared.Kind.TheVariants.{Device}
use Rattle.rules_table.specs.declared.Object.{Object}
use Rattle.alignment.specs.Pages.{smallest_page}
use Rattle.rangelists.specs.Listed.{reserved, allowed, valid, overlap}
use Rattle.table.specs.Fitting.{device-fits, list_fits-is}
use Rattle.rules_table.specs.Fits.{device_fits, list_fits}
use Rattle.object_rules.specs.Judged.{fits_by}

pub fits_device : (o : Object) → device_fits o ≡ (not (eqb o.bitmap 0) && (leb (smallest_page o.bitmap) 4096 && (leb o.reserved.count 4 && valid (reserved o.reserved))))
fits_device o = sym (device-fits o)

pub fits_list : (o : Object) → list_fits o ≡ (leb o.allow.count 8 && (valid (allowed o.allow) && not (overlap (allowed o.allow))))
fits_list o = sym (list_fits-is o)

module _ (h o : Object) (a : Attachment) where
  pub device-failed : device_fits o ≡ false → false ≡ fits_by h o (Device a)
  device-failed e = rw e
