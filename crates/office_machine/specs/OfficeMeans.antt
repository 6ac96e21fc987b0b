-- How this office reads tenders and makes digests: a tender is a list of prices in CSV, and the digest is SHA-256 (FIPS 180-4).
use Rattle.sha2.specs.Sha256.{sha256}
use Rattle.tender_papers.specs.Files.{csv_records}
use Rattle.tender_papers.specs.Tender.{reading_of}
use Rattle.office_machine.specs.Readings.{Readings}

abbrev pub office_readings : Readings
office_readings = record { read = λ bytes items. reading_of items (csv_records bytes); digest = sha256 }
