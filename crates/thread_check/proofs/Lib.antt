-- Why what the tests found out is what the calls ask, and why stubs stay.
mod ToldByParts
mod StubsStay
mod NoDomainsYet
